use Rattle.std.proofs.Common.{sym, subst}
use Rattle.std.specs.Prelude.{Result}
use Rattle.js_reading.specs.declared.mode.Parser.{Parser}
use Rattle.js_parser.specs.Answers.{Answers}
use Rattle.js_parser.specs.Outcomes.{taken}
use Rattle.js_parser.specs.declared.refusal.ScriptRefusal.{ScriptRefusal}
use Rattle.js_parser.proofs.Turns.{judged_answers}
use Rattle.js_parser.proofs.reading.taken.Goals as goal

pub returns : goal.returns
returns c =
    subst (λ (r : Result Parser ScriptRefusal). Answers r (taken c.args.is_wide c.args.parser c.args.token)) (sym c.judged.ensures) (judged_answers _ _ _ _ c.step.ensures)
