use Rattle.std.proofs.Common.{refl, inl, inr, arith}
use Rattle.commands.specs.TopCall.{ListAnswer}
use Rattle.commands.proofs.Faults.{as_told_where}
use Rattle.commands.proofs.decide.answer.Goals as goal

pub returns-in-Err-parse_script : goal.returns-in-Err-parse_script
returns-in-Err-parse_script c =
    as_told_where c.refused_script.result _ _ _ (λ n t. ListAnswer c.args.script.now c.args.bounds.now n t) c.refused_script.ensures.number c.refused_script.ensures.text
    (c.refused_script.ensures.reason c.args.script.now c.in-Err-parse_script.ensures.refused)
    (λ why. inr (inr (inl (record {
      accepted = c.in-Ok.bounds;
      formed = record { formed = c.in-Ok.ensures.form; few = omega (arith, c.count.ensures) };
      none = λ s h. c.one_refusal.ensures.apart c.args.script.now s c.in-Err-parse_script.refusal h why;
      refused = c.in-Err-parse_script.refusal;
      reason = why;
      number_is = refl;
      text_is = refl;
    }))))
