-- Patterns with two parts in a row and two alternatives at a time, as the standard's grammar has them (ECMA-262, section 22.2.1).
use Rattle.std.specs.Prelude.{ℕ, Bool, List, [], ◌∷◌, Option}
use Rattle.re_ast.specs.declared.patterns.Node.{Node}
use Rattle.re_ast.specs.declared.patterns.Node.TheOpen.{Node-F}
use Rattle.re_ast.specs.declared.patterns.Node.TheFolds.{fold-Node}
use Rattle.re_ast.specs.declared.patterns.ClassSet.{ClassSet}

pub data Tree : Type 0 where
  empty : Tree
  unit : ℕ → Tree
  dot : Tree
  class : ClassSet → Tree
  line_start : Tree
  line_end : Tree
  word : Tree
  not_word : Tree
  group : ℕ → Tree → Tree
  back : ℕ → Tree
  look : Bool → Tree → Tree
  repeated : Tree → ℕ → Option ℕ → Bool → ℕ → ℕ → Tree
  seq : Tree → Tree → Tree
  -- no alternative is left
  nothing : Tree
  alt : Tree → Tree → Tree

abbrev pub seq_all : List Tree → Tree
seq_all [] = empty
seq_all (a ∷ rest) = seq a (seq_all rest)

abbrev pub alt_all : List Tree → Tree
alt_all [] = nothing
alt_all (a ∷ rest) = alt a (alt_all rest)

abbrev pub tree_layer : Node-F Tree → Tree
tree_layer Node-F.Empty = empty
tree_layer (Node-F.Unit u) = unit u
tree_layer Node-F.Dot = dot
tree_layer (Node-F.Class set) = class set
tree_layer Node-F.LineStart = line_start
tree_layer Node-F.LineEnd = line_end
tree_layer Node-F.Word = word
tree_layer Node-F.NotWord = not_word
tree_layer (Node-F.Group k body) = group k body
tree_layer (Node-F.Back k) = back k
tree_layer (Node-F.Look negative body) = look negative body
tree_layer (Node-F.Repeat body min max lazy first past) = repeated body min max lazy first past
tree_layer (Node-F.Seq parts) = seq_all parts
tree_layer (Node-F.Alt parts) = alt_all parts

abbrev pub tree_of : Node → Tree
tree_of = fold-Node Tree tree_layer
