use Rattle.std.proofs.Common.{refl, arith}
use Rattle.js_frames.specs.Idle.{is_idle}
use Rattle.js_frames.proofs.Going.{exec_few}
use Rattle.js_frames.proofs.Steps.{stays, rounds, leads, where_true, where_false}
use Rattle.js_run_loops.proofs.for_loops.round.Goals as goal

pub returns-then-not-take_turn-clause-leads : goal.returns-then-not-take_turn-clause-leads
returns-then-not-take_turn-clause-leads c = leads (stays c.take_turn.ensures.quiet refl (λ view w. rw c.cut.ensures (where_false _ _ c.if-not-take_turn.true (c.take_turn.ensures.goes view _ _))))

pub returns-clause-leads : goal.returns-clause-leads
returns-clause-leads c = leads (rounds _ c.take_turn.ensures.quiet (c.take_turn.ensures.taken c.if-not-take_turn.false) c.in_ok-push.ensures.ok (λ view n k. rw c.get.ensures (where_true _ _ c.if-not-take_turn.false (c.take_turn.ensures.goes view _ _))))

pub returns-clause-falls : goal.returns-clause-falls
returns-clause-falls c =
    let taken = c.take_turn.ensures.taken c.if-not-take_turn.false in
    let few = exec_few (is_idle c.get.result.now) in
    rw (c.in_ok-push.ensures.ok, c.take_turn.ensures.nodes) (omega (arith, taken, few))
