use Rattle.std.proofs.Common.{refl, ◌∙◌, ap, sym, arith}
use Rattle.js_meaning.specs.Running.{Outcome}
use Rattle.js_meaning.specs.Blocks.{run_all}
use Rattle.js_meaning.specs.Meaning.{stmts}
use Rattle.js_state.specs.Held.{scope_of}
use Rattle.js_state.specs.Seen.{place_of}
use Rattle.js_frames.specs.Machine.{calling, doing}
use Rattle.js_frames.proofs.Steps.{stays, pushes, leads, still}
use Rattle.js_frames.proofs.Passing.{list_none, list_more}
use Rattle.js_run_blocks.proofs.Started.{run_none, run_more, run_last, list_one, first_counts}
use Rattle.js_run_blocks.proofs.blocks.run.Goals as goal

pub returns-in-empty-clause-leads : goal.returns-in-empty-clause-leads
returns-in-empty-clause-leads c = λ st. leads (stays still refl (λ view w. sym (c.from_counted-counted.ensures.does (calling w) w.loops (scope_of c.args.scope) (place_of view st)) ∙ ap {B = Outcome} (λ ss. doing w (run_all (stmts ss)) c.args.scope (place_of view st)) (list_none c.from_counted-counted.result.now c.in-empty.len_below) ∙ ap {B = Outcome} (λ m. doing w m c.args.scope (place_of view st)) run_none))

pub returns-in-len1-clause-leads : goal.returns-in-len1-clause-leads
returns-in-len1-clause-leads c = λ st. leads (stays still refl (λ view w. sym (c.from_counted-counted.ensures.does (calling w) w.loops (scope_of c.args.scope) (place_of view st)) ∙ ap {B = Outcome} (λ ss. doing w (run_all (stmts ss)) c.args.scope (place_of view st)) (list_one c.from_counted-counted.result.now c.last-item.result c.in-len1.len_at_least c.in-len1.len_below c.last-item.is) ∙ run_last _ _ _ _ _))

pub returns-in_ok-push-in-len1-up-clause-leads : goal.returns-in_ok-push-in-len1-up-clause-leads
returns-in_ok-push-in-len1-up-clause-leads c = λ st. leads (pushes _ still c.in_ok-push-in-len1-up.ensures.ok (λ view w. sym (c.from_counted-counted.ensures.does (calling w) w.loops (scope_of c.args.scope) (place_of view st)) ∙ ap {B = Outcome} (λ ss. doing w (run_all (stmts ss)) c.args.scope (place_of view st)) (list_more c.from_counted-counted.result.now c.first-item.result (omega (arith, c.in-len1-up.len_at_least)) c.first-item.is) ∙ run_more _ _ _ _ _ _))

pub returns-in-len1-clause-falls : goal.returns-in-len1-clause-falls
returns-in-len1-clause-falls c = λ st. rw (first_counts c.from_counted-counted.result.now c.last-item.result _ (list_one c.from_counted-counted.result.now c.last-item.result c.in-len1.len_at_least c.in-len1.len_below c.last-item.is) c.from_counted-counted.ensures.counts) (omega arith)

pub returns-in_ok-push-in-len1-up-clause-falls : goal.returns-in_ok-push-in-len1-up-clause-falls
returns-in_ok-push-in-len1-up-clause-falls c = λ st. rw (c.in_ok-push-in-len1-up.ensures.ok, first_counts c.from_counted-counted.result.now c.first-item.result _ (list_more c.from_counted-counted.result.now c.first-item.result (omega (arith, c.in-len1-up.len_at_least)) c.first-item.is) c.from_counted-counted.ensures.counts) (omega arith)
