-- Shadows that fit a table.
use Rattle.std.specs.Prelude.{◌≡◌, ◌≤◌, length, ℤ, true, List, [], ◌∷◌, slice_get, Option, Some, None}
use Rattle.js_values.specs.Numbers.{is_safe}
use Rattle.term_table.specs.declared.term.Term.{Term}
use Rattle.term_table.specs.declared.term.Term.TheVariants as term
use Rattle.term_table.specs.declared.term.TermId.{TermId}
use Rattle.term_table.specs.declared.shadow.Plain.{Plain}
use Rattle.term_table.specs.declared.shadow.Plain.TheVariants as plain
use Rattle.term_table.specs.declared.shadow.Shadow.{Shadow}
use Rattle.term_table.specs.declared.moves.Choice.{Choice}
use Rattle.term_table.specs.declared.moves.Choice.TheVariants as choice
use Rattle.term_table.specs.declared.moves.Move.{Move}
use Rattle.term_table.specs.declared.moves.Move.TheVariants as move
use Rattle.term_table.specs.declared.outcome.Outcome.{Outcome}
use Rattle.term_table.specs.declared.outcome.Outcome.TheVariants as outcome

-- what a term is: a flag, a whole number in a range, or a string
pub data Kind : Type 0 where
  flags : Kind
  numbers : ℤ → ℤ → Kind
  strings : Kind

abbrev pub kind_of : Term → Kind
kind_of (term.Flag b) = flags
kind_of (term.Int n) = numbers n n
kind_of (term.Text t) = strings

-- a term of this kind stands there
abbrev pub HasKind : List Term → TermId → Kind → Type 0
HasKind terms id k = (t : Term) × (slice_get terms id.0 ≡ Some t) × (kind_of t ≡ k)

-- the content is a value of the language: a safe integer, and a string of no more units than a string may have
abbrev pub IsValue : Plain → Type 0
IsValue (plain.Int n) = is_safe n ≡ true
IsValue (plain.Text t) = length t ≤ 65536
IsValue _ = Unit {0}

-- what may stand beside a value: so far no row makes a term
abbrev pub Beside : List Term → Plain → Option TermId → Type 0
Beside terms p None = Unit {0}
Beside terms p (Some t) = ⊥

pub record Fits (terms : List Term) (s : Shadow) : Type 0 where
  pub value : IsValue s.plain
  pub term : Beside terms s.plain s.term

abbrev pub FitsChoice : List Term → Choice → Type 0
FitsChoice terms (choice.Flag t) = HasKind terms t flags
FitsChoice terms (choice.Number t) = (low high : ℤ) × HasKind terms t (numbers low high)
FitsChoice terms (choice.Text t) = HasKind terms t strings

abbrev pub FitsMove : List Term → Move → Type 0
FitsMove terms (move.Guard t exit) = HasKind terms t flags
FitsMove terms (move.Event e c) = FitsChoice terms c

abbrev pub FitMoves : List Term → List Move → Type 0
FitMoves terms [] = Unit {0}
FitMoves terms (m ∷ ms) = FitsMove terms m × FitMoves terms ms

abbrev pub FitsGuard : List Term → Option TermId → Type 0
FitsGuard terms None = Unit {0}
FitsGuard terms (Some t) = HasKind terms t flags

abbrev pub FitsOutcome : List Term → Outcome → Type 0
FitsOutcome terms (outcome.Value moves value) = FitMoves terms moves × Fits terms value
FitsOutcome terms (outcome.Stop moves failed exit) = FitMoves terms moves × FitsGuard terms failed
FitsOutcome terms (outcome.Raise moves name) = FitMoves terms moves
