use Rattle.std.proofs.Common.{refl, ◌∙◌, ap, sym, map, Option, suc}
use Rattle.term_table.specs.Fitting.{Fits}
use Rattle.term_table.specs.Views.{at}
use Rattle.js_meaning.specs.Values.{Code}
use Rattle.js_meaning.specs.Running.{Outcome}
use Rattle.js_meaning.specs.Meaning.{call, calls_in}
use Rattle.js_state.specs.Held.{this_of}
use Rattle.js_state.specs.Seen.{place_of}
use Rattle.js_state.proofs.Found.{result_ok, result_err}
use Rattle.js_frames.specs.declared.frames.Frame.TheVariants.{Called}
use Rattle.js_frames.proofs.Steps.{stays, calls, leads, both, quiet_of}
use Rattle.js_frames.proofs.Passing.{stop_fits, err_stops}
use Rattle.js_frames.proofs.Later.{frames_same}
use Rattle.js_run_calls.proofs.calls.call_value.Goals as goal

pub returns-in_ok-completion-in-None-clause-leads : goal.returns-in_ok-completion-in-None-clause-leads
returns-in_ok-completion-in-None-clause-leads c = leads (stays (quiet_of c.in_ok-completion-in-None.ensures.still) refl (λ view w. ap {B = Outcome} (λ (o : Option Code). call o (calls_in w.calls) w.calls c.args.site (this_of c.args.this) (map (at view) c.args.values.now) (place_of view c.args.state.now)) (sym (c.in-None.ensures view)) ∙ c.in_ok-completion-in-None.ensures.gives view))

pub returns-in_ok-completion-in-None-clause-fits : goal.returns-in_ok-completion-in-None-clause-fits
returns-in_ok-completion-in-None-clause-fits c = (frames_same c.args.state.now c.throw_error.new.self c.args.frames.now c.in_ok-completion-in-None.ensures.still.table c.requires.frames, c.in_ok-completion-in-None.ensures.fits)

pub returns-in-Err-clause-leads : goal.returns-in-Err-clause-leads
returns-in-Err-clause-leads c = leads (stays c.in_ok-activated-in-Some.ensures.quiet refl (λ view w. ap {B = Outcome} (λ (o : Option Code). call o (calls_in w.calls) w.calls c.args.site (this_of c.args.this) (map (at view) c.args.values.now) (place_of view c.args.state.now)) (sym (c.in-Some.ensures view)) ∙ result_err view _ _ _ c.in-Err.is (c.in_ok-activated-in-Some.ensures.goes view _)))

pub returns-in-Err-clause-fits : goal.returns-in-Err-clause-fits
returns-in-Err-clause-fits c = (frames_same c.args.state.now c.activate.new.state c.args.frames.now c.in_ok-activated-in-Some.ensures.quiet.table c.requires.frames, stop_fits (Fits c.activate.new.state.table) c.in-Err.completion (err_stops c.in_ok-activated-in-Some.ensures.stops c.in-Err.is))

pub returns-in_ok-work-in-Ok-clause-leads : goal.returns-in_ok-work-in-Ok-clause-leads
returns-in_ok-work-in-Ok-clause-leads c = leads (both (calls Called c.in_ok-activated-in-Some.ensures.quiet (rw c.in-Ok.is at c.in_ok-activated-in-Some.ensures.taken) refl (λ view n k. ap {B = Outcome} (λ (o : Option Code). call o (calls_in (suc n)) (suc n) c.args.site (this_of c.args.this) (map (at view) c.args.values.now) (place_of view c.args.state.now)) (sym (c.in-Some.ensures view)) ∙ result_ok view _ _ _ _ c.in-Ok.is (c.in_ok-activated-in-Some.ensures.goes view _))) (c.in_ok-work-in-Ok.ensures.leads c.activate.new.state).to)

pub returns-in_ok-work-in-Ok-clause-fits : goal.returns-in_ok-work-in-Ok-clause-fits
returns-in_ok-work-in-Ok-clause-fits c = c.in_ok-work-in-Ok.ensures.fits c.activate.new.state (frames_same c.args.state.now c.activate.new.state c.args.frames.now c.in_ok-activated-in-Some.ensures.quiet.table c.requires.frames)
