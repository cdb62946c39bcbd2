-- This project's own: what the steps of reading answer.
use Rattle.std.specs.Prelude.{◌≡◌, ◌≤◌, ◌<◌, ℕ, List, length, Result, Ok, Err}
use Rattle.js_reading.specs.declared.mode.Parser.{Parser}
use Rattle.js_parser.specs.Places.{byte_at}
use Rattle.js_parser.specs.Outcomes.{Outcome, IsOutcome}
use Rattle.js_parser.specs.declared.refusal.ScriptRefusal.{ScriptRefusal}
use Rattle.js_parser.specs.declared.refusal.ScriptRefusal.TheVariants as refusal
use Rattle.js_parser.specs.declared.reading.Progress.{Progress}
use Rattle.js_parser.specs.declared.reading.Turn.{Turn}
use Rattle.js_parser.specs.declared.reading.Turn.TheVariants as turn

-- that answer, unless memory ran out
abbrev pub Answers : {X : Type 0} → Result X ScriptRefusal → Result X ScriptRefusal → Type 0
Answers (Ok x) answer = answer ≡ Ok x
Answers (Err refusal.NoMemory) answer = Unit {0}
Answers (Err e) answer = answer ≡ Err e

-- what is answered further on is what is answered here
pub record LeadsOn (text : List ℕ) (at : ℕ) (p : Parser) (q : Progress) : Type 0 where
  pub further : at < q.end
  pub within : q.end ≤ length text
  pub bytes_are : q.bytes ≡ byte_at text q.end
  pub onward : (result : Outcome) → IsOutcome text q.end q.parser result → IsOutcome text at p result

abbrev pub Reads : List ℕ → ℕ → Parser → Outcome → Type 0
Reads text at p (Ok body) = IsOutcome text at p (Ok body)
Reads text at p (Err refusal.NoMemory) = Unit {0}
Reads text at p (Err e) = IsOutcome text at p (Err e)

abbrev pub Advances : List ℕ → ℕ → Parser → Result Turn ScriptRefusal → Type 0
Advances text at p (Ok (turn.More q)) = LeadsOn text at p q
Advances text at p (Ok (turn.Over body)) = IsOutcome text at p (Ok body)
Advances text at p (Err e) = Reads text at p (Err e)
