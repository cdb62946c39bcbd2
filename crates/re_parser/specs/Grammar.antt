-- The grammar of patterns (ECMA-262, sections 22.2.1 and B.1.2).
-- A family says that units begin with the spelling of a part, and what is behind it. It counts the groups that capture: how many have begun before the part and behind it. `limit` is how high the numbers of backreferences may be, where there is a limit; `depth` how many `(` are open around the part.
use Rattle.std.specs.Prelude.{◌≡◌, ◌<◌, ℕ, ◌+◌, nat_le, nat_lt, Bool, true, false, List, [], ◌∷◌, Option, Some, None, suc, if◌then◌else◌}
use Rattle.re_ast.specs.declared.patterns.Node.{Node}
use Rattle.re_ast.specs.declared.patterns.Node.TheVariants as node
use Rattle.re_ast.specs.declared.patterns.Pattern.{Pattern}
use Rattle.re_parser.specs.Escapes.{units_of}
use Rattle.re_parser.specs.Quantifiers.{quantifier_at}
use Rattle.re_parser.specs.Pieces.{piece_at}
use Rattle.re_parser.specs.Classes.{IsMembers}
use Rattle.re_parser.specs.Flags.{flags_of}
use Rattle.re_parser.specs.declared.kinds.Quantifier.{Quantifier}
use Rattle.re_parser.specs.declared.kinds.Assertion.{Assertion}
use Rattle.re_parser.specs.declared.kinds.Assertion.TheVariants as assertion
use Rattle.re_parser.specs.declared.kinds.GroupKind.{GroupKind}
use Rattle.re_parser.specs.declared.kinds.GroupKind.TheVariants as group
use Rattle.re_parser.specs.declared.kinds.Atom.{Atom}
use Rattle.re_parser.specs.declared.kinds.Atom.TheVariants as atom
use Rattle.re_parser.specs.declared.kinds.Piece.{Piece}
use Rattle.re_parser.specs.declared.kinds.Piece.TheVariants as piece

abbrev pub Begins : List ℕ → Piece → List ℕ → Type 0
Begins units piece rest = piece_at units ≡ Some (piece, rest)

-- ---- trees

-- one term is itself, and no term is Empty
abbrev pub seq_of : List Node → Node
seq_of [] = node.Empty
seq_of (a ∷ []) = a
seq_of (a ∷ b ∷ more) = node.Seq (a ∷ b ∷ more)

-- one alternative is itself
abbrev pub alt_of : List Node → Node
alt_of [] = node.Empty
alt_of (a ∷ []) = a
alt_of (a ∷ b ∷ more) = node.Alt (a ∷ b ∷ more)

unfoldable pub assertion_node : Assertion → Node
assertion_node assertion.LineStart = node.LineStart
assertion_node assertion.LineEnd = node.LineEnd
assertion_node assertion.Word = node.Word
assertion_node assertion.NotWord = node.NotWord

unfoldable pub atom_node : Atom → Node
atom_node atom.Dot = node.Dot
atom_node (atom.Unit u) = node.Unit u
atom_node (atom.Escape e) = node.Class (record { ranges = units_of e; negated = false })
atom_node (atom.Back n) = node.Back n

abbrev pub is_within : Option ℕ → ℕ → Bool
is_within None n = true
is_within (Some most) n = nat_le n most

-- a backreference is within the limit
abbrev pub is_bound : Option ℕ → Atom → Bool
is_bound limit (atom.Back n) = is_within limit n
is_bound limit _ = true

-- an atom with a quantifier: `first` and `past` bound the groups inside it
abbrev pub repeat_by : ℕ → Node → ℕ → List ℕ → Option (Quantifier × List ℕ) → Node × List ℕ
repeat_by first body past units None = (body, units)
repeat_by first body past units (Some q) = (node.Repeat body q.0.min q.0.max q.0.lazy first past, q.1)

-- an atom with the quantifier that stands behind it, if one does, and what is behind that
unfoldable pub quantified : ℕ → Node → ℕ → List ℕ → Node × List ℕ
quantified first body past units = repeat_by first body past units (quantifier_at units)

-- what `(` and `)` of a kind make of their inside; a lookahead takes no quantifier
unfoldable pub closed : GroupKind → ℕ → Node → ℕ → List ℕ → Node × List ℕ
closed group.Capturing first body past units = quantified first (node.Group first body) past units
closed group.Plain first body past units = quantified first body past units
closed group.Ahead first body past units = (node.Look false body, units)
closed group.NotAhead first body past units = (node.Look true body, units)

-- how many groups have begun behind a `(`: at most nine, by this project's own limit
unfoldable pub begun : GroupKind → ℕ → Option ℕ
begun group.Capturing before = if nat_lt before 9 then Some (before + 1) else None
begun _ before = Some before

-- ---- the families

mutual
  -- Disjunction: alternatives with `|` between them
  pub data IsDisjunction (limit : Option ℕ) : ℕ → ℕ → List ℕ → List Node → ℕ → List ℕ → Type 0 where
    disjunction_last : (depth before : ℕ) (units : List ℕ) (terms : List Node) (after : ℕ) (rest : List ℕ) → IsAlternative limit depth before units terms after rest → IsDisjunction limit depth before units (seq_of terms ∷ []) after rest
    disjunction_more : (depth before : ℕ) (units : List ℕ) (terms : List Node) (mid : ℕ) (bar next : List ℕ) (nodes : List Node) (after : ℕ) (rest : List ℕ) → IsAlternative limit depth before units terms mid bar → Begins bar piece.Bar next → IsDisjunction limit depth mid next nodes after rest → IsDisjunction limit depth before units (seq_of terms ∷ nodes) after rest

  -- Alternative: a list of terms
  pub data IsAlternative (limit : Option ℕ) : ℕ → ℕ → List ℕ → List Node → ℕ → List ℕ → Type 0 where
    alternative_none : (depth before : ℕ) (units : List ℕ) → IsAlternative limit depth before units [] before units
    alternative_more : (depth before : ℕ) (units : List ℕ) (term : Node) (mid : ℕ) (next : List ℕ) (terms : List Node) (after : ℕ) (rest : List ℕ) → IsTerm limit depth before units term mid next → IsAlternative limit depth mid next terms after rest → IsAlternative limit depth before units (term ∷ terms) after rest

  -- Term: an assertion, or an atom with at most one quantifier
  pub data IsTerm (limit : Option ℕ) : ℕ → ℕ → List ℕ → Node → ℕ → List ℕ → Type 0 where
    term_assertion : (depth before : ℕ) (units : List ℕ) (a : Assertion) (rest : List ℕ) → Begins units (piece.Assertion a) rest → IsTerm limit depth before units (assertion_node a) before rest
    term_atom : (depth before : ℕ) (units : List ℕ) (a : Atom) (mid : List ℕ) → Begins units (piece.Atom a) mid → is_bound limit a ≡ true → IsTerm limit depth before units (quantified (before + 1) (atom_node a) (before + 1) mid).0 before (quantified (before + 1) (atom_node a) (before + 1) mid).1
    term_class : (depth before : ℕ) (units : List ℕ) (negated : Bool) (inside : List ℕ) (ranges : List (ℕ × ℕ)) (mid : List ℕ) → Begins units (piece.Class negated) inside → IsMembers inside ranges mid → IsTerm limit depth before units (quantified (before + 1) (node.Class (record { ranges = ranges; negated = negated })) (before + 1) mid).0 before (quantified (before + 1) (node.Class (record { ranges = ranges; negated = negated })) (before + 1) mid).1
    term_group : (depth before : ℕ) (units : List ℕ) (kind : GroupKind) (inside : List ℕ) (within : ℕ) (nodes : List Node) (after : ℕ) (close mid : List ℕ) → Begins units (piece.Open kind) inside → depth < 100 → begun kind before ≡ Some within → IsDisjunction limit (suc depth) within inside nodes after close → Begins close piece.Close mid → IsTerm limit depth before units (closed kind (before + 1) (alt_of nodes) (after + 1) mid).0 after (closed kind (before + 1) (alt_of nodes) (after + 1) mid).1

-- Pattern: the whole body is a disjunction, and each backreference is to one of its groups.
pub record Spells (body flags : List ℕ) (p : Pattern) : Type 0 where
  pub nodes : List Node
  pub disjunction : IsDisjunction (Some p.groups) 0 0 body nodes p.groups []
  pub node_is : p.node ≡ alt_of nodes
  pub flags_are : flags_of flags ≡ Some p.flags

-- the body is a disjunction, whatever the numbers of its backreferences are
pub record HasShape (body : List ℕ) : Type 0 where
  pub groups : ℕ
  pub nodes : List Node
  pub disjunction : IsDisjunction None 0 0 body nodes groups []
