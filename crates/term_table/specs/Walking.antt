-- The moves of a run walked along what a view shows: rows, and whole runs.
use Rattle.std.specs.Prelude.{◌≡◌, ℕ, Bool, true, false, List, [], ◌∷◌, Option, Some, None}
use Rattle.path_core.specs.declared.path.End.{End}
use Rattle.js_meaning.specs.Running.{Item, passed, made, Row, Answer, gives, raises, ends}
use Rattle.term_table.specs.declared.term.Term.{Term}
use Rattle.term_table.specs.declared.term.TermId.{TermId}
use Rattle.term_table.specs.declared.moves.Move.{Move}
use Rattle.term_table.specs.declared.moves.Move.TheVariants as move
use Rattle.term_table.specs.declared.outcome.Outcome.{Outcome}
use Rattle.term_table.specs.declared.outcome.Outcome.TheVariants as outcome
use Rattle.term_table.specs.Growing.{Grown}
use Rattle.term_table.specs.Views.{View, Agrees, at, passes, holds, seen}

-- what is shown: items, and what stands behind them
abbrev pub Shown : Type 0 → Type 0
Shown A = List Item × A

pub record Then {A : Type 0} (item : Item) (w : Shown A) (go : Shown A → Type 0) : Type 0 where
  pub rest : Shown A
  pub is : w ≡ (item ∷ rest.0, rest.1)
  pub on : go rest

-- a guard: its item where it holds, else its exit here
abbrev pub Passing : {A : Type 0} → (End → A → Type 0) → Bool → End → Shown A → (Shown A → Type 0) → Type 0
Passing stops true exit w go = Then (passed exit) w go
Passing stops false exit w go = (w.0 ≡ []) × stops exit w.1

-- the run's failed guard: its exit here where it fails too; where it holds, nothing more is said
abbrev pub Failing : {A : Type 0} → (End → A → Type 0) → Bool → End → Shown A → Type 0
Failing stops true exit w = Then (passed exit) w (λ rest. Unit {0})
Failing stops false exit w = (w.0 ≡ []) × stops exit w.1

-- the moves, in their order; behind an event of another outcome nothing more is said
abbrev pub Walk : {A : Type 0} → (End → A → Type 0) → View → List Move → Shown A → (Shown A → Type 0) → Type 0
Walk stops view [] w go = go w
Walk stops view (move.Guard t exit ∷ ms) w go = Passing stops (passes view t) exit w (λ rest. Walk stops view ms rest go)
Walk stops view (move.Event e choice ∷ ms) w go =
    Then (made (seen view e choice)) w (λ rest. seen view e choice ≡ e → Walk stops view ms rest go)

-- ---- rows

abbrev pub EndsRow : End → Answer → Type 0
EndsRow exit a = a ≡ ends exit

-- where a row's moves lead
abbrev pub Stopped : View → Option TermId → End → Row → Type 0
Stopped view None exit w = w ≡ ([], ends exit)
Stopped view (Some t) exit w = Failing EndsRow (holds view t) exit w

-- the row, at a view, is what was answered at a site
abbrev pub Shows : View → ℕ → Outcome → Row → Type 0
Shows view site (outcome.Value moves value) row = Walk EndsRow view moves row (λ w. w ≡ ([], gives (at view value)))
Shows view site (outcome.Stop moves failed exit) row = Walk EndsRow view moves row (λ w. Stopped view failed exit w)
Shows view site (outcome.Raise moves name) row = Walk EndsRow view moves row (λ w. w ≡ ([], raises site name))

-- an answer to a row: the table has grown, and at each view that agrees with it the answer is shown
pub record Meets (old new : List Term) (site : ℕ) (row : View → Row) (answer : Outcome) : Type 0 where
  pub grown : Grown old new
  pub shows : (view : View) → Agrees view new → Shows view site answer (row view)
