-- What is known of a script while its trees are searched.
use Rattle.std.specs.Prelude.{ℕ, List, Option}
use Rattle.std.specs.List.{flat_map, sum_by}
use Rattle.js_early.specs.declared.tree.Tree.{Tree}
use Rattle.js_early.specs.declared.tree.Tree.TheVariants as tree
use Rattle.js_early.specs.Early.{Places, stmt_found}
use Rattle.js_early.specs.Parts.{least_with, expr_places}
use Rattle.js_early.specs.Weight.{expr_weight, stmt_weight, expr_below, stmt_below}

abbrev pub tree_places : Tree → Places
tree_places (tree.Expression e) = expr_places e.now
tree_places (tree.Statement s) = (stmt_found s.now).places

abbrev pub tree_weight : Tree → ℕ
tree_weight (tree.Expression e) = expr_weight e.now
tree_weight (tree.Statement s) = stmt_weight s.now

abbrev pub tree_below : Tree → ℕ
tree_below (tree.Expression e) = expr_below e.now
tree_below (tree.Statement s) = stmt_below s.now

-- the least place of those found and of those in what is left, and the weight of what is left
pub record Known : Type 0 where
  pub least : Option ℕ
  pub weight : ℕ

abbrev pub known : Option ℕ → List Tree → Known
known found left = record { least = least_with found (flat_map tree_places left); weight = sum_by tree_weight left }
