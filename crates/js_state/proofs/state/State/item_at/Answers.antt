use Rattle.std.proofs.Common.{◌<◌, arith, sym, ap, ◌∙◌, length, slice_index_or}
use Rattle.std.specs.Option.{option_map}
use Rattle.std.proofs.lemmas.Option.{slice_get_within}
use Rattle.term_table.specs.Fitting.{Fits}
use Rattle.term_table.specs.Views.{at}
use Rattle.js_heap.specs.declared.class.Class.TheVariants.{Plain}
use Rattle.js_heap.specs.Contents.{bare_object}
use Rattle.js_state.specs.Fitting.{InObject}
use Rattle.js_state.proofs.Lists.{all_or}
use Rattle.js_state.proofs.Looked.{item_looks, item_fits, bare_fits}
use Rattle.js_state.proofs.state.State.item_at.Goals as goal

pub returns-in-None-clause-found : goal.returns-in-None-clause-found
returns-in-None-clause-found c view = rw (← c.self.view_is) (ap (option_map (at view)) c.in-None.ensures ∙ sym (item_looks view c.self.inside.closures c.self.inside.heap.objects c.args.id c.args.at))

pub returns-in_ok-value-in-Some-clause-found : goal.returns-in_ok-value-in-Some-clause-found
returns-in_ok-value-in-Some-clause-found c view = rw (← c.self.view_is, c.in_ok-value-in-Some.ensures) (ap (option_map (at view)) c.in-Some.ensures ∙ sym (item_looks view c.self.inside.closures c.self.inside.heap.objects c.args.id c.args.at))

pub returns-in_ok-value-in-Some-clause-fits : goal.returns-in_ok-value-in-Some-clause-fits
returns-in_ok-value-in-Some-clause-fits c =
    let o = all_or (InObject (Fits c.self.inside.table) (length c.self.inside.closures)) c.self.inside.heap.objects c.args.id (bare_object Plain) c.self.invariant.sound.objects (bare_fits (Fits c.self.inside.table) (length c.self.inside.closures)) in
    rw (← c.self.view_is, c.in_ok-value-in-Some.ensures) (item_fits (Fits c.self.inside.table) _ _ _ c.in-Some.ensures o.items)

pub returns-in_ok-value-in-Some-clause-within : goal.returns-in_ok-value-in-Some-clause-within
returns-in_ok-value-in-Some-clause-within c =
    let o = all_or (InObject (Fits c.self.inside.table) (length c.self.inside.closures)) c.self.inside.heap.objects c.args.id (bare_object Plain) c.self.invariant.sound.objects (bare_fits (Fits c.self.inside.table) (length c.self.inside.closures)) in
    let within : c.args.at < length (slice_index_or c.self.inside.heap.objects c.args.id (bare_object Plain)).items = slice_get_within _ _ _ (sym c.in-Some.ensures) in
    omega (arith, within, o.few)
