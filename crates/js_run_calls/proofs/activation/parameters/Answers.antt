use Rattle.std.proofs.Common.{◌∙◌, ap, sym, refl, map}
use Rattle.term_table.specs.Views.{at}
use Rattle.js_meaning.specs.Blocks.{open_parameters}
use Rattle.js_state.specs.Held.{scope_of}
use Rattle.js_state.specs.Seen.{place_of}
use Rattle.js_state.proofs.Found.{result_ok, result_err}
use Rattle.js_frames.proofs.Later.{fits_same}
use Rattle.js_frames.proofs.Passing.{list_none, list_more, err_stops}
use Rattle.js_frames.proofs.Steps.{still_both}
use Rattle.js_run_calls.proofs.Arguments.{parameters_step}
use Rattle.js_run_calls.proofs.activation.parameters.Goals as goal

pub open_cell-requires : goal.open_cell-requires
open_cell-requires c = fits_same c.args.state.now c.loop-left.state c.in_ok-value.value c.loop-left.invariant.still.table (c.in_ok-value.ensures.fits _ c.loop-left.invariant.fits)

pub returns-in-Err-clause-goes : goal.returns-in-Err-clause-goes
returns-in-Err-clause-goes c = λ view go. sym (c.loop-left.invariant.goes view go) ∙ parameters_step _ _ _ _ _ _ _ _ go (list_more c.loop-left.left.now c.first-item.result c.in-len1-up.len_at_least c.first-item.is) (c.in_ok-value.ensures.value view) refl ∙ result_err view _ _ _ c.in-Err.is (c.in_ok-opened.ensures.goes view _)

pub returns-in-Err-clause-stops : goal.returns-in-Err-clause-stops
returns-in-Err-clause-stops c = err_stops c.in_ok-opened.ensures.stops c.in-Err.is

pub returns-in-Err-clause-still : goal.returns-in-Err-clause-still
returns-in-Err-clause-still c = still_both c.loop-left.invariant.still c.in_ok-opened.ensures.still

pub returns-clause-goes : goal.returns-clause-goes
returns-clause-goes c = λ view go. sym (c.loop-left.invariant.goes view go) ∙ ap (λ ps. open_parameters ps (map (at view) c.loop-left.given.now) (scope_of c.loop-left.inner) (place_of view c.loop-left.state) go) (list_none c.loop-left.left.now c.in_default.len_below)

pub loop-left-preserved : goal.loop-left-preserved
loop-left-preserved c = record {
  goes = λ view go. sym (parameters_step _ _ _ _ _ _ _ _ go (list_more c.loop-left.left.now c.first-item.result c.in-len1-up.len_at_least c.first-item.is) (c.in_ok-value.ensures.value view) (c.further-given.ensures.seen view) ∙ result_ok view _ _ _ _ c.in-Ok.is (c.in_ok-opened.ensures.goes view _)) ∙ c.loop-left.invariant.goes view go;
  still = still_both c.loop-left.invariant.still c.in_ok-opened.ensures.still;
  fits = c.further-given.ensures.fits _ c.loop-left.invariant.fits;
}
