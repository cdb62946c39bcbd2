-- Events: which have one spelling, and how they are read.
use Rattle.std.specs.Prelude.{◌≡◌, ◌<◌, ◌^◌, ℕ, List, codes, Option, Some, None, true, map}
use Rattle.js_units.specs.Unquoted.{are_units, quoted_at}
use Rattle.path_core.specs.declared.path.Event.{Event}
use Rattle.path_core.specs.declared.path.Event.TheVariants as events
use Rattle.path_core.specs.declared.path.PickKind.{PickKind}
use Rattle.path_core.specs.declared.path.PickKind.TheVariants as kinds
use Rattle.proof_text.specs.Lines.{after, ◌>>=◌}
use Rattle.report_text.specs.Lines.{letter}
use Rattle.report_text.specs.Parts.{one_of, short_at}
use Rattle.report_text.specs.declared.events.TheConstants.{LETTERS}

-- ways that aren't written are 2
abbrev pub HasWays : PickKind → ℕ → Type 0
HasWays kinds.Key ways = ways < 2 ^ 32
HasWays kinds.Clamp ways = ways < 2 ^ 32
HasWays kind ways = ways ≡ 2

pub record IsPick (site : ℕ) (kind : PickKind) (out ways : ℕ) : Type 0 where
  pub site_short : site < 2 ^ 32
  pub out_short : out < 2 ^ 32
  pub ways_kept : HasWays kind ways

-- numbers of 32 bits, units of 16
abbrev pub IsEvent : Event → Type 0
IsEvent (events.Pick site kind out ways) = IsPick site kind out ways
IsEvent (events.Value site text) = (site < 2 ^ 32) × (are_units text ≡ true)

-- ---- read from left to right

-- the letter of a kind, or of a text
abbrev pub kind_text : Option PickKind → List ℕ
kind_text None = codes "v"
kind_text (Some kind) = letter kind

unfoldable pub letters : List (List ℕ × Option PickKind)
letters = map (λ e. (e.0.now, e.1)) LETTERS

abbrev pub written_ways : List ℕ → Option (ℕ × List ℕ)
written_ways list = do
  number ← after (codes "/") list
  short_at number

abbrev pub ways_at : PickKind → List ℕ → Option (ℕ × List ℕ)
ways_at kinds.Key list = written_ways list
ways_at kinds.Clamp list = written_ways list
ways_at kind list = Some (2, list)

abbrev pub pick_at : ℕ → PickKind → List ℕ → Option (Event × List ℕ)
pick_at site kind list = do
  out ← short_at list
  ways ← ways_at kind out.1
  Some (events.Pick site kind out.0 ways.0, ways.1)

abbrev pub text_at : ℕ → List ℕ → Option (Event × List ℕ)
text_at site list = do
  text ← quoted_at list
  Some (events.Value site text.0, text.1)

abbrev pub outcome_at : Option PickKind → ℕ → List ℕ → Option (Event × List ℕ)
outcome_at None site list = text_at site list
outcome_at (Some kind) site list = pick_at site kind list

abbrev pub place_at : List ℕ → Option ((Option PickKind × ℕ) × List ℕ)
place_at list = do
  start ← after (codes " ") list
  kind ← one_of letters start
  site ← short_at kind.1
  rest ← after (codes "=") site.1
  Some ((kind.0, site.0), rest)

unfoldable pub event_at : List ℕ → Option (Event × List ℕ)
event_at list = do
  place ← place_at list
  outcome_at place.0.0 place.0.1 place.1
