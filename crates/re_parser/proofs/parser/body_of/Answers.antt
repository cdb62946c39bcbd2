use Rattle.std.proofs.Common.{[], ℕ}
use Rattle.re_ast.specs.declared.patterns.Node.{Node}
use Rattle.re_parser.specs.Reading.{start}
use Rattle.re_parser.proofs.Lifts.{step_same, refused_at}
use Rattle.re_parser.proofs.Backs.{ended_in}
use Rattle.re_parser.proofs.Wholes.{leads_on, refuses}
use Rattle.re_parser.proofs.parser.body_of.Goals as goal

pub returns-in-Ok-clause-leads : goal.returns-in-Ok-clause-leads
returns-in-Ok-clause-leads c = leads_on start c.in-Ok.reader c.args.body.now [] c.whole.result (step_same start c.in-Ok.reader c.args.body.now [] c.in-Ok.ensures.0) c.whole.ensures.leads

pub returns-in-Ok-clause-place : goal.returns-in-Ok-clause-place
returns-in-Ok-clause-place c = ended_in (Node × ℕ) c.args.body.now c.in-Ok.reader c.whole.result c.in-Ok.ensures.0 c.in-Ok.ensures.1 c.whole.ensures.place

pub returns-in-Err-clause-leads : goal.returns-in-Err-clause-leads
returns-in-Err-clause-leads c = refuses _ start c.args.body.now c.in-Err.fault c.refusal.result c.refusal.ensures c.in-Err.ensures.0

pub returns-in-Err-clause-place : goal.returns-in-Err-clause-place
returns-in-Err-clause-place c = refused_at (Node × ℕ) c.args.body.now c.in-Err.fault c.refusal.result c.refusal.ensures c.in-Err.ensures.1
