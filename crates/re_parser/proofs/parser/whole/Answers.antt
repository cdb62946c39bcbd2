use Rattle.std.proofs.Common.{Some, sym, ap, ◌∙◌, arith}
use Rattle.re_parser.specs.Reading.{are_bound}
use Rattle.re_parser.proofs.Wholes.{frames_stuck, unbound_leads, leads_whole}
use Rattle.re_parser.proofs.Backs.{unbound_false}
use Rattle.re_parser.proofs.parser.whole.Goals as goal

pub returns-then-len-gt0-clause-leads : goal.returns-then-len-gt0-clause-leads
returns-then-len-gt0-clause-leads c = frames_stuck c.args.reader (grind (arith, c.if-len-gt0.true))

pub returns-in-Some-clause-leads : goal.returns-in-Some-clause-leads
returns-in-Some-clause-leads c = unbound_leads c.args.reader (grind (arith, c.if-len-gt0.false)) (ap (are_bound (Some c.args.reader.groups)) (sym c.as_slice.ensures) ∙ unbound_false _ _ _ c.in-Some.ensures)

pub returns-in-Ok-clause-leads : goal.returns-in-Ok-clause-leads
returns-in-Ok-clause-leads c = leads_whole c.args.reader (c.in-Ok.node, c.in-Ok.groups) (grind (arith, c.if-len-gt0.false)) (ap (are_bound (Some c.args.reader.groups)) (sym c.as_slice.ensures) ∙ c.in_default.ensures) c.in-Ok.ensures
