-- What a run has spent, counted in terms: those of its table, and what its moves may take of a query's constraint.
use Rattle.std.specs.Prelude.{◌≡◌, ◌≤◌, ◌+◌, ℕ, List, [], ◌∷◌, length, Result, Ok, Err}
use Rattle.term_table.specs.declared.term.Term.{Term}
use Rattle.term_table.specs.Prices.{guard_price, choice_price}
use Rattle.js_state.specs.Held.{Contents}
use Rattle.js_state.specs.declared.completion.Completion.{Completion}
use Rattle.js_state.specs.declared.completion.Completion.TheVariants.{Value, Refers}
use Rattle.js_state.specs.declared.held.RunMove.{RunMove}
use Rattle.js_state.specs.declared.held.RunMove.TheVariants as run

abbrev pub run_price : List Term → RunMove → ℕ
run_price terms (run.Guard t exit) = guard_price terms t
run_price terms (run.Event e choice) = choice_price terms choice
run_price terms (run.Failed t exit) = guard_price terms t

abbrev pub owed : List Term → List RunMove → ℕ
owed terms [] = 0
owed terms (m ∷ ms) = run_price terms m + owed terms ms

abbrev pub spent : Contents → ℕ
spent st = length st.table + owed st.table st.moves

abbrev pub SpendsAtMost : ℕ → Contents → Contents → Type 0
SpendsAtMost n old new = spent new ≤ spent old + n

-- ---- credit: a value or a reference brings 7 terms for what is done with it, any other completion none

abbrev pub credit_of_given : Completion → ℕ
credit_of_given (Value s) = 7
credit_of_given (Refers r) = 7
credit_of_given _ = 0

abbrev pub ErrPoor : {A : Type 0} → Result A Completion → Type 0
ErrPoor (Ok x) = Unit {0}
ErrPoor (Err completion) = credit_of_given completion ≡ 0
