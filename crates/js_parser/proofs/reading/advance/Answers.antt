use Rattle.std.proofs.Common.{Ok, Err}
use Rattle.js_parser.proofs.Turns.{leads_on, refused_here, over_here, nothing_here}
use Rattle.js_parser.proofs.reading.advance.Goals as goal

pub returns-in-Ok : goal.returns-in-Ok
returns-in-Ok c = leads_on _ _ _ _ _ _ _ _ _ c.goal_of.ensures (rw c.in-Ok-Token.field-0-is at c.in-Ok-Token.ensures) c.in-Ok.ensures

pub returns-in-Err-taken : goal.returns-in-Err-taken
returns-in-Err-taken c = refused_here _ _ _ _ _ _ _ _ _ c.goal_of.ensures (rw c.in-Ok-Token.field-0-is at c.in-Ok-Token.ensures) c.in-Err-taken.ensures

pub returns-in-Ok-over : goal.returns-in-Ok-over
returns-in-Ok-over c = over_here _ _ _ _ _ (Ok c.in-Ok-over.body) c.goal_of.ensures (rw c.in-Ok-Over.field-0-is at c.in-Ok-Over.ensures) c.in-Ok-over.ensures

pub returns-in-Err-over : goal.returns-in-Err-over
returns-in-Err-over c = over_here _ _ _ _ _ (Err c.in-Err-over.refusal) c.goal_of.ensures (rw c.in-Ok-Over.field-0-is at c.in-Ok-Over.ensures) c.in-Err-over.ensures

pub returns-in-Err : goal.returns-in-Err
returns-in-Err c = nothing_here _ _ _ _ _ c.goal_of.ensures c.in-Err.ensures
