use Rattle.js_frames.proofs.Passing.{body_passes}
use Rattle.js_run_loops.proofs.bodies.loop_continues.Goals as goal

pub returns-in_default-clause-goes : goal.returns-in_default-clause-goes
returns-in_default-clause-goes c view st go = body_passes view go st c.args.completion c.in_default.not-Normal c.in_default.not-Continue c.in_default.not-Break
