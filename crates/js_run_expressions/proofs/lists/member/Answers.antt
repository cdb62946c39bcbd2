use Rattle.std.proofs.Common.{refl, ◌∙◌, ap}
use Rattle.term_table.specs.Fitting.{Fits}
use Rattle.term_table.specs.Views.{at}
use Rattle.js_state.specs.Seen.{place_of}
use Rattle.js_frames.specs.Machine.{on_member}
use Rattle.js_frames.proofs.Steps.{stays, leads, both, quiet_of, still}
use Rattle.js_frames.proofs.Passing.{gives_object, list_none, list_more, stop_fits, err_stops}
use Rattle.js_frames.proofs.Later.{frames_same}
use Rattle.js_state.proofs.Found.{result_ok, result_err}
use Rattle.js_run_expressions.proofs.lists.member.Goals as goal

pub returns-in-empty-clause-leads : goal.returns-in-empty-clause-leads
returns-in-empty-clause-leads c = leads (stays still refl (λ view w. rw c.object.ensures (ap (λ ms. on_member w c.args.site ms c.args.scope c.args.id (at view c.args.value) (place_of view c.args.state.now)) (list_none c.args.list.now c.in-empty.len_below) ∙ gives_object view (place_of view c.args.state.now) c.args.id)))

pub returns-in-Err-clause-leads : goal.returns-in-Err-clause-leads
returns-in-Err-clause-leads c = leads (stays (quiet_of c.in_ok-added-in-len1-up.ensures.still) refl (λ view w. ap (λ ms. on_member w c.args.site ms c.args.scope c.args.id (at view c.args.value) (place_of view c.args.state.now)) (list_more c.args.list.now c.first-item.result c.in-len1-up.len_at_least c.first-item.is) ∙ result_err view _ _ _ c.in-Err.is (c.in_ok-added-in-len1-up.ensures.goes view _)))

pub returns-in-Err-clause-fits : goal.returns-in-Err-clause-fits
returns-in-Err-clause-fits c = (frames_same c.args.state.now c.set.new.state c.args.frames.now c.in_ok-added-in-len1-up.ensures.still.table c.requires.frames, stop_fits (Fits c.set.new.state.table) c.in-Err.completion (err_stops c.in_ok-added-in-len1-up.ensures.stops c.in-Err.is))

pub members-requires : goal.members-requires
members-requires c = frames_same c.args.state.now c.set.new.state c.args.frames.now c.in_ok-added-in-len1-up.ensures.still.table c.requires.frames

pub returns-in_ok-work-in-Ok-clause-leads : goal.returns-in_ok-work-in-Ok-clause-leads
returns-in_ok-work-in-Ok-clause-leads c = leads (both (stays (quiet_of c.in_ok-added-in-len1-up.ensures.still) refl (λ view w. ap (λ ms. on_member w c.args.site ms c.args.scope c.args.id (at view c.args.value) (place_of view c.args.state.now)) (list_more c.args.list.now c.first-item.result c.in-len1-up.len_at_least c.first-item.is) ∙ result_ok view _ _ _ _ c.in-Ok.is (c.in_ok-added-in-len1-up.ensures.goes view _))) c.in_ok-work-in-Ok.ensures.leads.to)
