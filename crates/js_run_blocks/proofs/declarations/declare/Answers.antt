use Rattle.std.proofs.Common.{refl, ◌∙◌, ap, take, drop, length, ◌-◌}
use Rattle.term_table.specs.declared.shadow.Plain.TheVariants.{Undefined}
use Rattle.term_table.proofs.Views.{at_plain}
use Rattle.js_meaning.specs.Running.{Outcome}
use Rattle.js_meaning.specs.Names.{init_name}
use Rattle.js_meaning.specs.Blocks.{declare}
use Rattle.js_meaning.specs.Meaning.{expr}
use Rattle.js_state.specs.Held.{scope_of}
use Rattle.js_state.specs.Seen.{place_of}
use Rattle.js_frames.specs.Machine.{calling}
use Rattle.js_frames.proofs.Steps.{stays, pushes, leads, quiet_of, still_both}
use Rattle.js_frames.proofs.Passing.{list_none, list_more}
use Rattle.js_frames.proofs.Later.{frames_same}
use Rattle.js_run_blocks.proofs.Declaring.{declares_bare, declares_valued}
use Rattle.js_run_blocks.proofs.declarations.declare.Goals as goal

pub names-init : goal.names-init
names-init c = record { goes = λ view w. refl; still = record { turns = refl; nodes = refl; moves = refl; table = refl; keeps = refl; spends = refl }; same = refl }

pub names-preserved : goal.names-preserved
names-preserved c = record {
  goes = λ view w. c.names.invariant.goes view w
      ∙ ap {B = Outcome} (λ ds. declare expr ds (calling w) w.loops (scope_of c.args.scope) (place_of view c.names.state)) (list_more c.names.left.now c.first-item.result c.in-len1-up.len_at_least c.first-item.is)
      ∙ declares_bare c.first-item.result (take (length c.names.left.now - 1) (drop 1 c.names.left.now)) _ _ _ _ _ c.in-None.is (c.init_name.ensures.gives view ∙ ap (λ x. init_name c.first-item.result.name.name (scope_of c.args.scope) x (place_of view c.names.state)) (at_plain view Undefined));
  still = still_both c.names.invariant.still c.init_name.ensures.still;
  same = c.names.invariant.same;
}

pub returns-in-Some-clause-leads : goal.returns-in-Some-clause-leads
returns-in-Some-clause-leads c = leads (pushes _ (quiet_of c.names.invariant.still) (rw c.names.invariant.same at c.in_ok-push-in-Some.ensures.ok) (λ view w. c.names.invariant.goes view w
    ∙ ap {B = Outcome} (λ ds. declare expr ds (calling w) w.loops (scope_of c.args.scope) (place_of view c.names.state)) (list_more c.names.left.now c.first-item.result c.in-len1-up.len_at_least c.first-item.is)
    ∙ declares_valued c.first-item.result (take (length c.names.left.now - 1) (drop 1 c.names.left.now)) _ _ _ _ _ c.in-Some.is))

pub returns-in-Some-clause-fits : goal.returns-in-Some-clause-fits
returns-in-Some-clause-fits c = rw (c.in_ok-push-in-Some.ensures.ok, c.names.invariant.same) ((tt, frames_same c.args.state.now c.names.state c.args.frames.now c.names.invariant.still.table c.requires), tt)

pub returns-clause-leads : goal.returns-clause-leads
returns-clause-leads c = leads (stays (quiet_of c.names.invariant.still) c.names.invariant.same (λ view w. c.names.invariant.goes view w
    ∙ ap {B = Outcome} (λ ds. declare expr ds (calling w) w.loops (scope_of c.args.scope) (place_of view c.names.state)) (list_none c.names.left.now c.in_default.len_below)))

pub returns-clause-fits : goal.returns-clause-fits
returns-clause-fits c = rw c.names.invariant.same (frames_same c.args.state.now c.names.state c.args.frames.now c.names.invariant.still.table c.requires, tt)
