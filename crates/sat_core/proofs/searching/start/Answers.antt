use Rattle.sat_core.proofs.Answered.{when_some}
use Rattle.sat_core.proofs.Searched.{clashed}
use Rattle.sat_core.proofs.searching.start.Goals as goal

pub returns-in_ok-push-in-Some : goal.returns-in_ok-push-in-Some
returns-in_ok-push-in-Some c =
    clashed c.args.cnf.now c.args.budget c.args.steps.now c.push.new.self c.set_up.new.trail c.entries.result.now c.in-Some.conflict c.in_ok-refute-in-Some.field-0 c.requires.steps c.requires.budget
    (when_some c.in_ok-conflict.field-0 c.in-Some.conflict _ _ c.in-Some.is c.in_ok-conflict.ensures.begun) c.entries.ensures.value c.in_ok-refute-in-Some.ensures.clause c.in_ok-refute-in-Some.ensures.hints c.in_ok-push-in-Some.ensures.ok
