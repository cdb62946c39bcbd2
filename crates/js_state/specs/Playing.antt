-- How a state takes up what rows show, and what it then has shown, at every view.
use Rattle.std.specs.Prelude.{◌≡◌, ◌≤◌, ℕ, ◌+◌, ◌-◌, Bool, true, false, nat_lt, if◌then◌else◌, List, [], ◌∷◌, ◌++◌, Option, Some, None, Result, Ok, Err}
use Rattle.path_core.specs.declared.path.Event.{Event}
use Rattle.path_core.specs.declared.path.End.{End}
use Rattle.term_table.specs.declared.term.TermId.{TermId}
use Rattle.term_table.specs.declared.moves.Move.{Move}
use Rattle.term_table.specs.declared.moves.Move.TheVariants as move
use Rattle.term_table.specs.declared.shadow.Plain.TheVariants as plain
use Rattle.term_table.specs.Growing.{Grown}
use Rattle.term_table.specs.Views.{View, Valuation, passes, holds, seen}
use Rattle.term_table.specs.Walking.{Then, Passing, Failing}
use Rattle.js_meaning.specs.Values.{Place}
use Rattle.js_meaning.specs.Running.{Item, made, Completion as Ending, stops, Outcome, done, after, bind, stamp, event_limit, site_of_event}
use Rattle.js_meaning.specs.Path.{events_of}
use Rattle.js_state.specs.Held.{Contents}
use Rattle.js_state.specs.Spending.{spent}
use Rattle.js_state.specs.Seen.{place_of, completion_at, Agreeing}
use Rattle.js_state.specs.declared.held.RunMove.{RunMove}
use Rattle.js_state.specs.declared.held.RunMove.TheVariants as run
use Rattle.js_state.specs.declared.completion.Completion.{Completion}
use Rattle.js_state.specs.declared.completion.Completion.TheVariants as c

-- ---- moves of a run walked along what a view shows

abbrev pub events_made : List RunMove → List Event
events_made [] = []
events_made (run.Guard t exit ∷ ms) = events_made ms
events_made (run.Failed t exit ∷ ms) = events_made ms
events_made (run.Event e choice ∷ ms) = e ∷ events_made ms

-- at the run's own view events alone are asked for, and guards that held are passed over
pub record Follow (ms : List RunMove) (w : Outcome) (go : Outcome → Type 0) : Type 0 where
  pub items : List Item
  pub rest : Outcome
  pub is : w ≡ after items rest
  pub same : events_of items ≡ events_made ms
  pub on : go rest

abbrev pub stops_there : End → Place × Ending → Type 0
stops_there exit r = r.1 ≡ stops exit

-- at another input every move is
abbrev pub WalkRun : Valuation → List RunMove → Outcome → (Outcome → Type 0) → Type 0
WalkRun v [] w go = go w
WalkRun v (run.Guard t exit ∷ ms) w go = Passing stops_there (passes (Some v) t) exit w (λ w. WalkRun v ms w go)
WalkRun v (run.Failed t exit ∷ ms) w go = Failing stops_there (holds (Some v) t) exit w
WalkRun v (run.Event e choice ∷ ms) w go =
    Then (made (seen (Some v) e choice)) w (λ w. seen (Some v) e choice ≡ e → WalkRun v ms w go)

abbrev pub Track : View → List RunMove → Outcome → (Outcome → Type 0) → Type 0
Track None ms w go = Follow ms w go
Track (Some v) ms w go = WalkRun v ms w go

-- hands on that the run stops
abbrev pub Hands : (Place → Ending → Outcome) → Type 0
Hands go = (st : Place) (end : End) → go st (stops end) ≡ done st (stops end)

-- from one state to the next a part was done: with these moves, at each view, to this completion
pub record Does (old new : Contents) (part : View → Outcome) (completion : Completion) : Type 0 where
  pub added : List RunMove
  pub moves : new.moves ≡ old.moves ++ added
  pub grown : Grown old.table new.table
  pub keeps : new.keeps ≡ old.keeps
  pub on : (view : View) → Agreeing view new → (go : Place → Ending → Outcome) → Hands go →
      Track view added (bind (part view) go) (λ w. w ≡ go (place_of view new) (completion_at view completion))

-- ---- the moves of an answer are taken up: as long as events are left, and guards only where all moves are kept

abbrev pub guard_kept : Bool → TermId → End → List RunMove → List RunMove
guard_kept true t exit ms = run.Guard t exit ∷ ms
guard_kept false t exit ms = ms

abbrev pub failed_kept : Bool → TermId → End → List RunMove
failed_kept true t exit = run.Failed t exit ∷ []
failed_kept false t exit = []

abbrev pub taken_up : Bool → ℕ → ℕ → ℕ → List Move → List RunMove
taken_up keeps turns ended events [] = []
taken_up keeps turns ended events (move.Guard t exit ∷ ms) =
    guard_kept keeps t (stamp turns ended exit) (taken_up keeps turns ended events ms)
taken_up keeps turns ended events (move.Event e choice ∷ ms) =
    if nat_lt events event_limit then run.Event e choice ∷ taken_up keeps turns ended (events + 1) ms else []

abbrev pub events_after : ℕ → List Move → ℕ
events_after events [] = events
events_after events (move.Guard t exit ∷ ms) = events_after events ms
events_after events (move.Event e choice ∷ ms) = if nat_lt events event_limit then events_after (events + 1) ms else events

-- the site of the first event that is too many
abbrev pub cut_by : ℕ → List Move → Option ℕ
cut_by events [] = None
cut_by events (move.Guard t exit ∷ ms) = cut_by events ms
cut_by events (move.Event e choice ∷ ms) =
    if nat_lt events event_limit then cut_by (events + 1) ms else Some (site_of_event e)

-- nothing but moves and the count of events has changed
pub record Unmoved (old new : Contents) : Type 0 where
  pub inputs : new.inputs ≡ old.inputs
  pub keeps : new.keeps ≡ old.keeps
  pub allowed : new.allowed ≡ old.allowed
  pub cells : new.cells ≡ old.cells
  pub objects : new.objects ≡ old.objects
  pub table : new.table ≡ old.table
  pub turns : new.turns ≡ old.turns
  pub ended : new.ended ≡ old.ended
  pub nodes : new.nodes ≡ old.nodes
  pub joins : new.joins ≡ old.joins

pub record TakenUp (old new : Contents) (ms : List Move) (cut : Option ℕ) : Type 0 where
  pub unmoved : Unmoved old new
  pub moves : new.moves ≡ old.moves ++ taken_up old.keeps (old.allowed - old.turns) old.ended old.events ms
  pub events : new.events ≡ events_after old.events ms
  pub is_cut : cut ≡ cut_by old.events ms

-- ---- what stays

-- neither a turn, nor a node, nor a move
pub record Still (old new : Contents) : Type 0 where
  pub turns : new.turns ≡ old.turns
  pub nodes : new.nodes ≡ old.nodes
  pub moves : new.moves ≡ old.moves
  pub table : new.table ≡ old.table
  pub keeps : new.keeps ≡ old.keeps
  pub spends : spent new ≡ spent old

-- no move
pub record Quiet (old new : Contents) : Type 0 where
  pub turns : new.turns ≤ old.turns
  pub moves : new.moves ≡ old.moves
  pub table : new.table ≡ old.table
  pub keeps : new.keeps ≡ old.keeps
  pub spends : spent new ≡ spent old

-- neither a turn nor a node
pub record Level (old new : Contents) : Type 0 where
  pub turns : new.turns ≡ old.turns
  pub nodes : new.nodes ≡ old.nodes

-- the completion of a test: its outcome as a value
abbrev pub told : Result Bool Completion → Completion
told (Ok holds) = c.Value (record { plain = plain.Bool holds; term = None })
told (Err completion) = completion

-- nothing but the table has changed, which has at most grown
pub record Asked (old new : Contents) : Type 0 where
  pub same : new ≡ record old { table = new.table }
  pub grown : Grown old.table new.table
