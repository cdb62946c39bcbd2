use Rattle.std.proofs.Common.{refl}
use Rattle.std.specs.Option.{option_map}
use Rattle.js_meaning.specs.Running.{bind}
use Rattle.js_meaning.specs.Blocks.{block}
use Rattle.js_meaning.specs.Meaning.{stmts, caught}
use Rattle.js_state.specs.Held.{scope_of}
use Rattle.js_state.specs.Seen.{place_of}
use Rattle.js_frames.specs.Machine.{doing, calling, catch_of}
use Rattle.js_frames.proofs.Steps.{stays, pushes, leads, both, still, where_true, where_false}
use Rattle.js_frames.proofs.Later.{frames_same}
use Rattle.js_frames.proofs.Statements as opens
use Rattle.js_run_statements.proofs.tries.begin_try.Goals as goal

pub returns-then-not-count-clause-leads : goal.returns-then-not-count-clause-leads
returns-then-not-count-clause-leads c = leads (stays c.count.ensures.quiet refl (λ view w. rw (opens.stmt_Try, c.cut.ensures) (where_false _ _ c.if-not-count.true (c.count.ensures.goes view _ _))))

pub returns-clause-leads : goal.returns-clause-leads
returns-clause-leads c = leads (both (pushes {next = λ view w. bind (doing w (block c.args.body.now (stmts c.args.body.now)) c.args.scope (place_of view c.count.new.self)) (caught (option_map catch_of c.args.catch.now) (calling w) w.loops (scope_of c.args.scope))} _ c.count.ensures.quiet c.in_ok-push.ensures.ok (λ view w. rw opens.stmt_Try (where_true _ _ c.if-not-count.false (c.count.ensures.goes view _ _)))) (pushes _ still c.in_ok-push-2.ensures.ok (λ view w. refl)))

pub returns-clause-fits : goal.returns-clause-fits
returns-clause-fits c = rw (c.in_ok-push-2.ensures.ok, c.in_ok-push.ensures.ok) ((tt, (tt, frames_same c.args.state.now c.count.new.self c.args.frames.now c.count.ensures.quiet.table c.requires)), tt)
