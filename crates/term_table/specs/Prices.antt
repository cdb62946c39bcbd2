-- What moves may take of the constraint of a query, counted in terms: a guard two, an event two or three, and a constant none.
use Rattle.std.specs.Prelude.{◌≤◌, ◌+◌, ℕ, List, [], ◌∷◌, length, slice_get, Option, Some, None}
use Rattle.term_table.specs.declared.term.Term.{Term}
use Rattle.term_table.specs.declared.term.Term.TheVariants as term
use Rattle.term_table.specs.declared.term.TermId.{TermId}
use Rattle.term_table.specs.declared.moves.Choice.{Choice}
use Rattle.term_table.specs.declared.moves.Choice.TheVariants as choice
use Rattle.term_table.specs.declared.moves.Move.{Move}
use Rattle.term_table.specs.declared.moves.Move.TheVariants as move
use Rattle.term_table.specs.declared.outcome.Outcome.{Outcome}
use Rattle.term_table.specs.declared.outcome.Outcome.TheVariants as outcome

-- so much for what stands there, and nothing for a constant
abbrev pub unless_constant : ℕ → Option Term → ℕ
unless_constant n (Some (term.Flag b)) = 0
unless_constant n (Some (term.Int k)) = 0
unless_constant n (Some (term.Text t)) = 0
unless_constant n None = n

abbrev pub guard_price : List Term → TermId → ℕ
guard_price terms t = unless_constant 2 (slice_get terms t.0)

abbrev pub choice_price : List Term → Choice → ℕ
choice_price terms (choice.Flag t) = unless_constant 2 (slice_get terms t.0)
choice_price terms (choice.Number t) = unless_constant 3 (slice_get terms t.0)
choice_price terms (choice.Text t) = unless_constant 3 (slice_get terms t.0)

abbrev pub move_price : List Term → Move → ℕ
move_price terms (move.Guard t exit) = guard_price terms t
move_price terms (move.Event e c) = choice_price terms c

abbrev pub moves_price : List Term → List Move → ℕ
moves_price terms [] = 0
moves_price terms (m ∷ ms) = move_price terms m + moves_price terms ms

-- the guard that failed, where one did
abbrev pub failed_price : List Term → Option TermId → ℕ
failed_price terms None = 0
failed_price terms (Some t) = guard_price terms t

abbrev pub outcome_price : List Term → Outcome → ℕ
outcome_price terms (outcome.Value moves value) = moves_price terms moves
outcome_price terms (outcome.Stop moves failed exit) = moves_price terms moves + failed_price terms failed
outcome_price terms (outcome.Raise moves name) = moves_price terms moves

-- the terms that a row has added and the price of its moves are together at most so many
abbrev pub CostsAtMost : ℕ → List Term → List Term → Outcome → Type 0
CostsAtMost n old new answer = length new + outcome_price new answer ≤ length old + n
