use Rattle.std.proofs.Common.{refl, ap, sym}
use Rattle.js_meaning.specs.Running.{Outcome}
use Rattle.js_meaning.specs.Blocks.{declare}
use Rattle.js_meaning.specs.Meaning.{expr}
use Rattle.js_state.specs.Held.{scope_of}
use Rattle.js_frames.specs.Machine.{calling}
use Rattle.js_frames.proofs.Steps.{stays, leads, both, quiet_of}
use Rattle.js_frames.proofs.Later.{frames_same}
use Rattle.js_run_blocks.proofs.declarations.declared.Goals as goal

pub declare-requires : goal.declare-requires
declare-requires c = frames_same c.args.state.now c.init_name.new.self c.args.frames.now c.init_name.ensures.still.table c.requires.frames

pub returns-clause-leads : goal.returns-clause-leads
returns-clause-leads c = leads (both (stays (quiet_of c.init_name.ensures.still) refl (λ view w. ap {B = Outcome} (declare expr c.args.rest.now (calling w) w.loops (scope_of c.args.scope)) (sym (c.init_name.ensures.gives view)))) c.in_ok-work.ensures.leads.to)
