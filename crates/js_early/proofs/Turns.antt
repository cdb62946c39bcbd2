-- What a search has before it: one more tree, other names, and the turns of loops over parts.
use Rattle.std.proofs.Common.{◌≡◌, ℕ, ◌+◌, ◌≤◌, ◌<◌, List, [], ◌∷◌, ◌++◌, length, get_or, drop, min, Option, Some, None, refl, ap, sym, ◌∙◌, arith}
use Rattle.std.specs.List.{flat_map, sum_by}
use Rattle.std.proofs.lemmas.List.{drop_more, drop_all, append-nil}
use Rattle.std.proofs.lemmas.List.Sums.{sum_by-cons}
use Rattle.js_early.specs.declared.tree.Tree.{Tree}
use Rattle.js_early.specs.Early.{Places}
use Rattle.js_early.specs.Parts.{lesser, least_with}
use Rattle.js_early.specs.Search.{tree_places, tree_weight, tree_below}
use Rattle.std.proofs.lemmas.Grind.{flat_map-append}
use Rattle.js_early.specs.declared.tree.Tree.TheVariants as tree
use Rattle.js_early.proofs.Weighs.{expr_itself, stmt_itself}
use Rattle.js_early.proofs.Least.{parts, least_both, least_none}

-- ---- one more tree

pub flat_map_push : (left : List Tree) (t : Tree) → flat_map tree_places (left ++ t ∷ []) ≡ flat_map tree_places left ++ tree_places t
flat_map_push left t = flat_map-append tree_places left (t ∷ []) ∙ ap (λ (ps : Places). flat_map tree_places left ++ ps) (append-nil (tree_places t))

pub ruleset pushed = (flat_map_push, least_both, least_none)

-- a tree is more than what is below it
pub tree_itself : (t : Tree) → tree_weight t ≡ 1 + tree_below t
tree_itself (tree.Expression e) = expr_itself e.now
tree_itself (tree.Statement s) = stmt_itself s.now

-- ---- places in any order

lesser_twice : (found : Option ℕ) (p q : ℕ) → lesser (Some (lesser found p)) q ≡ lesser (Some (lesser found q)) p
lesser_twice None p q = omega arith
lesser_twice (Some n) p q = omega arith

lesser_later : (found : Option ℕ) (p : ℕ) (qs : Places) → least_with (Some (lesser found p)) qs ≡ least_with (least_with found qs) (p ∷ [])
unfolding least_with
lesser_later found p [] = refl
lesser_later found p (q ∷ qs) = ap (λ (n : ℕ). least_with (Some n) qs) (lesser_twice found p q) ∙ lesser_later (Some (lesser found q)) p qs

pub least_swap : (found : Option ℕ) (ps qs : Places) → least_with (least_with found ps) qs ≡ least_with (least_with found qs) ps
unfolding least_with
least_swap found [] qs = refl
least_swap found (p ∷ ps) qs = least_swap (Some (lesser found p)) ps qs ∙ ap (λ (o : Option ℕ). least_with o ps) (lesser_later found p qs)

-- ---- turns

pub weight_step : {X : Type 0} (w : X → ℕ) (xs : List X) (i : ℕ) (item : X) (n m : ℕ) → i < length xs → item ≡ get_or xs i item → m ≡ n + w item
    → m + sum_by w (drop (i + 1) xs) ≡ n + sum_by w (drop i xs)
weight_step w xs i item n m h is e =
    let d : sum_by w (drop i xs) ≡ w (get_or xs i item) + sum_by w (drop (i + 1) xs) = ap (sum_by w) (drop_more xs i item h) ∙ sum_by-cons w (get_or xs i item) (drop (i + 1) xs) in
    let g : w item ≡ w (get_or xs i item) = ap w is in
    omega arith

pub weight_all : {X : Type 0} (w : X → ℕ) (xs : List X) (i n : ℕ) → length xs ≤ i → n + sum_by w (drop i xs) ≡ n
weight_all w xs i n h =
    let d : sum_by w (drop i xs) ≡ 0 = ap (sum_by w) (drop_all i xs h) in
    omega arith

pub ruleset turns = (parts, weight_all)
