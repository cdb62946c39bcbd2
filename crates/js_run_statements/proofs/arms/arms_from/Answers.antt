use Rattle.std.proofs.Common.{refl, ◌∙◌, ap, take, drop, length, ◌-◌, arith}
use Rattle.std.specs.Option.{option_map}
use Rattle.js_meaning.specs.Running.{Outcome}
use Rattle.js_meaning.specs.Meaning.{optional}
use Rattle.js_state.specs.Seen.{place_of}
use Rattle.js_frames.specs.Machine.{doing, beside, on_arms}
use Rattle.js_frames.specs.Idle.{is_idle}
use Rattle.js_frames.proofs.Going.{exec_few}
use Rattle.js_frames.proofs.Steps.{stays, leads, leads_from, still}
use Rattle.js_frames.proofs.Passing.{list_none, list_more}
use Rattle.js_run_statements.proofs.Testing.{arms_begin}
use Rattle.js_run_statements.proofs.arms.arms_from.Goals as goal

pub returns-in-None-clause-leads : goal.returns-in-None-clause-leads
returns-in-None-clause-leads c = leads (stays still refl (λ view w. ap {B = Outcome} (λ xs. doing w (on_arms xs (optional (option_map beside c.args.alternate.now))) c.args.scope (place_of view c.args.state.now)) (list_none c.args.arms.now c.in-empty.len_below) ∙ ap {B = Outcome} (λ o. doing w (optional (option_map beside o)) c.args.scope (place_of view c.args.state.now)) c.in-None.is))

pub returns-in-Some-clause-leads : goal.returns-in-Some-clause-leads
returns-in-Some-clause-leads c = leads (stays still refl (λ view w. rw c.get.ensures (ap {B = Outcome} (λ xs. doing w (on_arms xs (optional (option_map beside c.args.alternate.now))) c.args.scope (place_of view c.args.state.now)) (list_none c.args.arms.now c.in-empty.len_below) ∙ ap {B = Outcome} (λ o. doing w (optional (option_map beside o)) c.args.scope (place_of view c.args.state.now)) c.in-Some.is)))

pub returns-in_ok-work-in-len1-up-clause-leads : goal.returns-in_ok-work-in-len1-up-clause-leads
returns-in_ok-work-in-len1-up-clause-leads c = leads_from c.in_ok-work-in-len1-up.ensures.leads (λ view w. arms_begin w c.args.arms.now c.first-item.result (take (length c.args.arms.now - 1) (drop 1 c.args.arms.now)) c.args.alternate.now c.args.scope (place_of view c.args.state.now) (list_more c.args.arms.now c.first-item.result c.in-len1-up.len_at_least c.first-item.is))

pub returns-in-Some-clause-falls : goal.returns-in-Some-clause-falls
returns-in-Some-clause-falls c = let few = exec_few (is_idle c.get.result.now) in omega (arith, few)
