use Rattle.std.proofs.Common.{refl, ◌∙◌, ap, sym}
use Rattle.js_state.specs.Held.{scope_of}
use Rattle.js_state.specs.Seen.{place_of}
use Rattle.js_frames.specs.Machine.{calling}
use Rattle.js_frames.proofs.Steps.{stays, leads, both, quiet_both, quiet_of, where_true, where_false}
use Rattle.js_frames.proofs.Later.{frames_same}
use Rattle.js_frames.proofs.Opens as opens
use Rattle.js_meaning.specs.Builtins.{among, error_names}
use Rattle.js_run_expressions.proofs.Named.{of_error, of_listed, of_other}
use Rattle.js_run_expressions.proofs.constructing.construct.Goals as goal

pub returns-then-not-count-clause-leads : goal.returns-then-not-count-clause-leads
returns-then-not-count-clause-leads c = leads (stays c.count.ensures.quiet refl (λ view w. rw (opens.expr_New, c.cut.ensures) (where_false _ _ c.if-not-count.true (c.count.ensures.goes view _ _))))

pub returns-then-not-count-clause-fits : goal.returns-then-not-count-clause-fits
returns-then-not-count-clause-fits c = (frames_same c.args.state.now c.count.new.self c.args.frames.now c.count.ensures.quiet.table c.requires, rw c.cut.ensures tt)

pub returns-then-not-is_error-clause-leads : goal.returns-then-not-is_error-clause-leads
returns-then-not-is_error-clause-leads c = leads (stays c.count.ensures.quiet refl (λ view w. rw opens.expr_New (where_true _ _ c.if-not-count.false (c.count.ensures.goes view _ _) ∙ of_listed c.args.site c.args.name.now c.args.arguments.now (calling w) w.loops (scope_of c.args.scope) (place_of view c.count.new.self) (c.in-Some.ensures view).0 (ap (λ t. among t error_names) (sym (c.in-Some.ensures view).1) ∙ sym c.if-not-is_error.ensures) ∙ rw (c.left.ensures.gives view) refl)))

pub returns-then-not-is_error-clause-fits : goal.returns-then-not-is_error-clause-fits
returns-then-not-is_error-clause-fits c = (frames_same c.args.state.now c.count.new.self c.args.frames.now c.count.ensures.quiet.table c.requires, rw c.left.ensures.stops tt)

pub returns-in_ok-completion-in-None-clause-leads : goal.returns-in_ok-completion-in-None-clause-leads
returns-in_ok-completion-in-None-clause-leads c = leads (stays (quiet_both c.count.ensures.quiet (quiet_of c.in_ok-completion-in-None.ensures.still)) refl (λ view w. rw opens.expr_New (where_true _ _ c.if-not-count.false (c.count.ensures.goes view _ _) ∙ of_other c.args.site c.args.name.now c.args.arguments.now (calling w) w.loops (scope_of c.args.scope) (place_of view c.count.new.self) (c.in-None.ensures view) ∙ c.in_ok-completion-in-None.ensures.gives view)))

pub returns-in_ok-completion-in-None-clause-fits : goal.returns-in_ok-completion-in-None-clause-fits
returns-in_ok-completion-in-None-clause-fits c = (frames_same c.args.state.now c.other.new.state c.args.frames.now (c.in_ok-completion-in-None.ensures.still.table ∙ c.count.ensures.quiet.table) c.requires, c.in_ok-completion-in-None.ensures.fits)

pub returns-in_ok-work-in-Some-clause-leads : goal.returns-in_ok-work-in-Some-clause-leads
returns-in_ok-work-in-Some-clause-leads c = leads (both (stays c.count.ensures.quiet refl (λ view w. rw (c.in_ok-gathered-in-Some.ensures, c.new-values.ensures, opens.expr_New) (where_true _ _ c.if-not-count.false (c.count.ensures.goes view _ _) ∙ of_error c.args.site c.args.name.now c.args.arguments.now (calling w) w.loops (scope_of c.args.scope) (place_of view c.count.new.self) (c.in-Some.ensures view).0 (ap (λ t. among t error_names) (sym (c.in-Some.ensures view).1) ∙ sym c.if-not-is_error.ensures)))) (c.in_ok-work-in-Some.ensures.leads c.count.new.self).to)

pub returns-in_ok-work-in-Some-clause-fits : goal.returns-in_ok-work-in-Some-clause-fits
returns-in_ok-work-in-Some-clause-fits c = c.in_ok-work-in-Some.ensures.fits c.count.new.self (frames_same c.args.state.now c.count.new.self c.args.frames.now c.count.ensures.quiet.table c.requires) (rw (c.in_ok-gathered-in-Some.ensures, c.new-values.ensures) (tt, tt))
