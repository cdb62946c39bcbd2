use Rattle.std.proofs.Common.{sym, arith}
use Rattle.re_parser.specs.Classes.{NoMembers}
use Rattle.re_parser.proofs.Members.{grows_closed, grows_stuck, lacks}
use Rattle.re_parser.proofs.Passing.{passed_next, passed_grows, passed_fault}
use Rattle.re_parser.proofs.ClassFaults.{class_faults}
use Rattle.re_parser.proofs.classes.members.Goals as goal

pub loop-item-preserved : goal.loop-item-preserved
loop-item-preserved c = (passed_next _ _ _ _ c.in-Some.item c.in-Some.behind.now c.loop-item.invariant.0 (sym c.in-Some.ensures.read) c.in_ok-ranges.ensures, omega (arith, c.loop-item.invariant.1, c.in-Some.ensures.shorter))

pub returns-in-Some-behind_close-clause-read : goal.returns-in-Some-behind_close-clause-read
returns-in-Some-behind_close-clause-read c = grows_closed _ _ _ _ (passed_grows _ _ _ c.loop-item.invariant.0) (sym c.in-Some-behind_close.ensures.read)

pub returns-in-None-clause-read : goal.returns-in-None-clause-read
returns-in-None-clause-read c = lacks (NoMembers c.args.units.now) c.class_fault.result (grows_stuck _ _ _ (passed_grows _ _ _ c.loop-item.invariant.0) (sym c.in_default.ensures.read) (sym c.in-None.ensures.read))

pub returns-in-None-clause-faults : goal.returns-in-None-clause-faults
returns-in-None-clause-faults c = passed_fault c.args.units.now c.loop-item.ranges c.loop-item.left.now c.class_fault.result c.loop-item.invariant.0 (class_faults c.loop-item.left.now c.class_fault.result (sym c.in_default.ensures.read) (sym c.in-None.ensures.read) c.class_fault.ensures)
