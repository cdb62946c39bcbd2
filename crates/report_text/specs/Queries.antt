-- Queries: which have one spelling, and how they are read.
use Rattle.std.specs.Prelude.{ℕ, List, [], ◌∷◌, codes, Option, Some, None}
use Rattle.js_units.specs.Reading.{many}
use Rattle.path_core.specs.declared.path.Event.{Event}
use Rattle.path_core.specs.declared.path.Child.{Child}
use Rattle.path_core.specs.declared.path.Child.TheVariants as children
use Rattle.path_core.specs.declared.query.Query.{Query}
use Rattle.proof_text.specs.Lines.{after, ◌>>=◌}
use Rattle.report_text.specs.Events.{IsEvent, event_at}
use Rattle.report_text.specs.Endings.{IsEnd, end_at}

abbrev pub IsChild : Child → Type 0
IsChild (children.Event event) = IsEvent event
IsChild (children.End end) = IsEnd end

abbrev pub Each : {X : Type 0} → (X → Type 0) → List X → Type 0
Each P [] = Unit {0}
Each P (x ∷ xs) = P x × Each P xs

pub record IsQuery (query : Query) : Type 0 where
  pub prefix : Each IsEvent query.prefix
  pub children : Each IsChild query.children

-- ---- read from left to right

abbrev pub ending_child_at : List ℕ → Option (Child × List ℕ)
ending_child_at list = do
  start ← after (codes " ") list
  end ← end_at start
  Some (children.End end.0, end.1)

-- an event, or else an end
abbrev pub event_child : Option (Event × List ℕ) → Option (Child × List ℕ) → Option (Child × List ℕ)
event_child None other = other
event_child (Some r) other = Some (children.Event r.0, r.1)

unfoldable pub child_at : List ℕ → Option (Child × List ℕ)
child_at list = event_child (event_at list) (ending_child_at list)

abbrev pub children_at : List Event → List ℕ → Option (Query × List ℕ)
children_at prefix list = do
  rest ← after (codes " |") list
  Some (record { prefix = prefix; children = (many child_at rest).0 }, (many child_at rest).1)

unfoldable pub query_at : List ℕ → Option (Query × List ℕ)
query_at list = children_at (many event_at list).0 (many event_at list).1
