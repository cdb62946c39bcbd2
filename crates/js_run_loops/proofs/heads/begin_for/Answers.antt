use Rattle.std.proofs.Common.{refl, suc, ◌∙◌}
use Rattle.js_meaning.specs.Loops.{for_loop}
use Rattle.js_meaning.specs.Meaning.{stmt}
use Rattle.js_state.specs.Held.{scope_of}
use Rattle.js_state.specs.Seen.{place_of}
use Rattle.js_frames.specs.Machine.{calling, does_in, part_in}
use Rattle.js_frames.proofs.Steps.{stays, pushes, leads, both, where_true, where_false}
use Rattle.js_frames.proofs.Later.{frames_same}
use Rattle.js_frames.proofs.Statements as opens
use Rattle.js_run_loops.proofs.Declaring.{head_declares}
use Rattle.js_run_loops.proofs.heads.begin_for.Goals as goal

pub returns-then-not-count-clause-leads : goal.returns-then-not-count-clause-leads
returns-then-not-count-clause-leads c = leads (stays c.count.ensures.quiet refl (λ view w. rw (opens.stmt_For, c.cut.ensures) (where_false _ _ c.if-not-count.true (c.count.ensures.goes view _ _))))

pub for_on-requires : goal.for_on-requires
for_on-requires c = frames_same c.args.state.now c.count.new.self c.args.frames.now c.count.ensures.quiet.table c.requires

pub returns-in_ok-work-in-Nothing-clause-leads : goal.returns-in_ok-work-in-Nothing-clause-leads
returns-in_ok-work-in-Nothing-clause-leads c = leads (both (stays c.count.ensures.quiet refl (λ view w. rw (opens.stmt_For, c.in-Nothing.is) (where_true _ _ c.if-not-count.false (c.count.ensures.goes view _ _)))) c.in_ok-work-in-Nothing.ensures.leads.to)

pub returns-in_ok-push-in-Value-clause-leads : goal.returns-in_ok-push-in-Value-clause-leads
returns-in_ok-push-in-Value-clause-leads c = leads (pushes _ c.count.ensures.quiet c.in_ok-push-in-Value.ensures.ok (λ view w. rw (opens.stmt_For, c.in-Value.is) (where_true _ _ c.if-not-count.false (c.count.ensures.goes view _ _))))

pub declare_names-requires : goal.declare_names-requires
declare_names-requires c = frames_same c.args.state.now c.count.new.self c.args.frames.now c.count.ensures.quiet.table c.requires

pub returns-in_ok-work-in-Declare-clause-leads : goal.returns-in_ok-work-in-Declare-clause-leads
returns-in_ok-work-in-Declare-clause-leads c = leads (both (stays c.count.ensures.quiet refl (λ view w. rw (opens.stmt_For, c.in-Declare.is, ← c.as_slice.ensures) (where_true _ _ c.if-not-count.false (c.count.ensures.goes view _ _) ∙ head_declares c.in-Declare.kind c.as_slice.result.now (calling w) w.loops (scope_of c.args.scope) (λ names. for_loop (suc w.loops) c.args.site names (part_in w c.args.test.now) (part_in w c.args.update.now) (does_in w (stmt c.args.body.now)) (scope_of c.args.scope)) (place_of view c.count.new.self)))) c.in_ok-work-in-Declare.ensures.leads.to)
