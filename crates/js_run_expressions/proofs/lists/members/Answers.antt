use Rattle.std.proofs.Common.{refl, ◌≡◌, ◌∙◌, ap, sym, subst}
use Rattle.js_meaning.specs.Running.{on_value, bind}
use Rattle.js_meaning.specs.Parts.{members}
use Rattle.js_meaning.specs.Meaning.{expr}
use Rattle.js_state.specs.Held.{scope_of}
use Rattle.js_state.specs.Seen.{place_of}
use Rattle.js_frames.specs.Machine.{calling, doing, on_member}
use Rattle.js_frames.proofs.Steps.{stays, pushes, leads, both, still}
use Rattle.js_frames.proofs.Passing.{gives_object, list_none, list_more}
use Rattle.js_frames.proofs.Later.{frames_same}
use Rattle.js_meaning.specs.Running.{count}
use Rattle.js_meaning.specs.Names.{read_name}
use Rattle.js_run_expressions.proofs.lists.members.Goals as goal

pub returns-in-empty-clause-leads : goal.returns-in-empty-clause-leads
returns-in-empty-clause-leads c = leads (stays still refl (λ view w. rw c.object.ensures (ap (λ ms. members expr c.args.site ms (calling w) w.loops (scope_of c.args.scope) c.args.id (place_of view c.args.state.now)) (list_none c.args.list.now c.in-empty.len_below) ∙ gives_object view (place_of view c.args.state.now) c.args.id)))

pub returns-in-Value-clause-leads : goal.returns-in-Value-clause-leads
returns-in-Value-clause-leads c = leads (pushes _ still c.in_ok-push-in-len1-up.ensures.ok (λ view w. subst (λ ms. members expr c.args.site ms (calling w) w.loops (scope_of c.args.scope) c.args.id (place_of view c.args.state.now) ≡ bind (doing w (expr c.in-Value.value) c.args.scope (place_of view c.args.state.now)) (on_value (on_member w c.args.site ms c.args.scope c.args.id))) (sym (list_more c.args.list.now c.first-item.result c.in-len1-up.len_at_least c.first-item.is)) (rw c.in-Value.is refl)))

pub returns-in_ok-completion-in-Shorthand-clause-leads : goal.returns-in_ok-completion-in-Shorthand-clause-leads
returns-in_ok-completion-in-Shorthand-clause-leads c = leads (both (pushes {next = λ view w. count c.in-Shorthand.shorthand.site (place_of view c.args.state.now) (λ st. read_name c.in-Shorthand.shorthand.site c.in-Shorthand.shorthand.name (scope_of c.args.scope) st)} _ still c.in_ok-push-in-len1-up.ensures.ok (λ view w. subst (λ ms. members expr c.args.site ms (calling w) w.loops (scope_of c.args.scope) c.args.id (place_of view c.args.state.now) ≡ bind (count c.in-Shorthand.shorthand.site (place_of view c.args.state.now) (λ st. read_name c.in-Shorthand.shorthand.site c.in-Shorthand.shorthand.name (scope_of c.args.scope) st)) (on_value (on_member w c.args.site ms c.args.scope c.args.id))) (sym (list_more c.args.list.now c.first-item.result c.in-len1-up.len_at_least c.first-item.is)) (rw c.in-Shorthand.is refl))) (stays c.in_ok-completion-in-Shorthand.ensures.quiet refl (λ view w. c.in_ok-completion-in-Shorthand.ensures.gives view)))

pub returns-in_ok-completion-in-Shorthand-clause-fits : goal.returns-in_ok-completion-in-Shorthand-clause-fits
returns-in_ok-completion-in-Shorthand-clause-fits c = rw c.in_ok-push-in-len1-up.ensures.ok ((tt, frames_same c.args.state.now c.name.new.state c.args.frames.now c.in_ok-completion-in-Shorthand.ensures.quiet.table c.requires), c.in_ok-completion-in-Shorthand.ensures.fits)
