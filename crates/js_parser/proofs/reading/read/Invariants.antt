use Rattle.std.proofs.Common.{◌≡◌, ◌≤◌, ◌-◌, length}
use Rattle.js_reading.specs.Reading.{start}
use Rattle.js_parser.specs.Places.{byte_at}
use Rattle.js_parser.specs.Outcomes.{Outcome, IsOutcome}
use Rattle.js_parser.proofs.reading.read.Given as goal

abbrev pub invariant-tokens : goal.invariant-tokens
invariant-tokens l =
    (l.progress.end ≤ length l.text) × (l.progress.bytes ≡ byte_at l.text l.progress.end)
    × ((result : Outcome) → IsOutcome l.text l.progress.end l.progress.parser result → IsOutcome l.text 0 start result)

abbrev pub decreases-tokens : goal.decreases-tokens
decreases-tokens l = length l.text - l.progress.end
