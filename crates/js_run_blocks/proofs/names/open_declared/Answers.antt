use Rattle.std.proofs.Common.{ap}
use Rattle.js_meaning.specs.Running.{Outcome}
use Rattle.js_meaning.specs.Blocks.{open_names}
use Rattle.js_state.specs.Held.{scope_of}
use Rattle.js_state.specs.Seen.{place_of}
use Rattle.js_run_blocks.proofs.Opened.{out_Declare, out_Function, declares_nothing}
use Rattle.js_run_blocks.proofs.names.open_declared.Goals as goal

pub returns-in_ok-opened-in-Declare-clause-goes : goal.returns-in_ok-opened-in-Declare-clause-goes
returns-in_ok-opened-in-Declare-clause-goes c view go = rw (c.in-Declare.is, out_Declare, ← c.as_slice.ensures) (c.in_ok-opened-in-Declare.ensures.goes view go)

pub returns-in_ok-opened-in-Function-clause-goes : goal.returns-in_ok-opened-in-Function-clause-goes
returns-in_ok-opened-in-Function-clause-goes c view go = rw (c.in-Function.is, out_Function) (c.in_ok-opened-in-Function.ensures.goes view go)

pub returns-in_default-clause-goes : goal.returns-in_default-clause-goes
returns-in_default-clause-goes c view go = ap {B = Outcome} (λ ds. open_names ds (scope_of c.args.scope) (place_of view c.args.state.now) go) (declares_nothing _ c.in_default.not-Declare c.in_default.not-Function)
