-- The tree of each kind of node.
use Rattle.std.proofs.Common.{ℕ, Bool, List, Option, ◌≡◌, ap, sym, ◌∙◌, map}
use Rattle.re_ast.specs.Tree.{Tree, tree_of, tree_layer, empty, unit, dot, class, line_start, line_end, word, not_word, group, back, look, repeated, seq_all, alt_all}
use Rattle.re_ast.specs.declared.patterns.ClassSet.{ClassSet}
use Rattle.re_ast.specs.declared.patterns.Node.{Node}
use Rattle.re_ast.specs.declared.patterns.Node.TheOpen.{Node-F}
use Rattle.re_ast.specs.declared.patterns.Node.TheVariants as node
use Rattle.re_ast.specs.declared.patterns.Node.TheFolds.{fold-roll-Node}

pub tree_of_empty : tree_of node.Empty ≡ empty
tree_of_empty = ap tree_of (sym node.rolls-Empty) ∙ fold-roll-Node Tree tree_layer Node-F.Empty

pub tree_of_unit : (u : ℕ) → tree_of (node.Unit u) ≡ unit u
tree_of_unit u = ap tree_of (sym (node.rolls-Unit u)) ∙ fold-roll-Node Tree tree_layer (Node-F.Unit u)

pub tree_of_dot : tree_of node.Dot ≡ dot
tree_of_dot = ap tree_of (sym node.rolls-Dot) ∙ fold-roll-Node Tree tree_layer Node-F.Dot

pub tree_of_class : (set : ClassSet) → tree_of (node.Class set) ≡ class set
tree_of_class set = ap tree_of (sym (node.rolls-Class set)) ∙ fold-roll-Node Tree tree_layer (Node-F.Class set)

pub tree_of_line_start : tree_of node.LineStart ≡ line_start
tree_of_line_start = ap tree_of (sym node.rolls-LineStart) ∙ fold-roll-Node Tree tree_layer Node-F.LineStart

pub tree_of_line_end : tree_of node.LineEnd ≡ line_end
tree_of_line_end = ap tree_of (sym node.rolls-LineEnd) ∙ fold-roll-Node Tree tree_layer Node-F.LineEnd

pub tree_of_word : tree_of node.Word ≡ word
tree_of_word = ap tree_of (sym node.rolls-Word) ∙ fold-roll-Node Tree tree_layer Node-F.Word

pub tree_of_not_word : tree_of node.NotWord ≡ not_word
tree_of_not_word = ap tree_of (sym node.rolls-NotWord) ∙ fold-roll-Node Tree tree_layer Node-F.NotWord

pub tree_of_group : (k : ℕ) (body : Node) → tree_of (node.Group k body) ≡ group k (tree_of body)
tree_of_group k body = ap tree_of (sym (node.rolls-Group k body)) ∙ fold-roll-Node Tree tree_layer (Node-F.Group k body)

pub tree_of_back : (k : ℕ) → tree_of (node.Back k) ≡ back k
tree_of_back k = ap tree_of (sym (node.rolls-Back k)) ∙ fold-roll-Node Tree tree_layer (Node-F.Back k)

pub tree_of_look : (negative : Bool) (body : Node) → tree_of (node.Look negative body) ≡ look negative (tree_of body)
tree_of_look negative body = ap tree_of (sym (node.rolls-Look negative body)) ∙ fold-roll-Node Tree tree_layer (Node-F.Look negative body)

pub tree_of_repeat : (body : Node) (min : ℕ) (max : Option ℕ) (lazy : Bool) (first past : ℕ) → tree_of (node.Repeat body min max lazy first past) ≡ repeated (tree_of body) min max lazy first past
tree_of_repeat body min max lazy first past = ap tree_of (sym (node.rolls-Repeat body min max lazy first past)) ∙ fold-roll-Node Tree tree_layer (Node-F.Repeat body min max lazy first past)

pub tree_of_seq : (parts : List Node) → tree_of (node.Seq parts) ≡ seq_all (map tree_of parts)
tree_of_seq parts = ap tree_of (sym (node.rolls-Seq parts)) ∙ fold-roll-Node Tree tree_layer (Node-F.Seq parts)

pub tree_of_alt : (parts : List Node) → tree_of (node.Alt parts) ≡ alt_all (map tree_of parts)
tree_of_alt parts = ap tree_of (sym (node.rolls-Alt parts)) ∙ fold-roll-Node Tree tree_layer (Node-F.Alt parts)
