-- How many events a run's moves hold.
use Rattle.std.proofs.Common.{◌≡◌, ◌+◌, ◌++◌, List, [], ◌∷◌, length, ap, ◌∙◌}
use Rattle.std.proofs.lemmas.List.{append-nil, length-append}
use Rattle.path_core.specs.declared.path.Event.{Event}
use Rattle.path_core.specs.declared.path.End.{End}
use Rattle.term_table.specs.declared.term.TermId.{TermId}
use Rattle.term_table.specs.declared.moves.Choice.{Choice}
use Rattle.js_state.specs.declared.held.RunMove.{RunMove}
use Rattle.js_state.specs.declared.held.RunMove.TheVariants as run
use Rattle.js_state.specs.Playing.{events_made}
use Rattle.js_state.proofs.Shown.{made_both}

pub guard_kept : (ms ns : List RunMove) (t : TermId) (exit : End) → ns ≡ ms ++ run.Guard t exit ∷ [] → length (events_made ns) ≡ length (events_made ms)
guard_kept ms ns t exit e = ap (λ xs. length (events_made xs)) e ∙ ap length (made_both ms (run.Guard t exit ∷ []) ∙ append-nil (events_made ms))

pub failed_kept : (ms ns : List RunMove) (t : TermId) (exit : End) → ns ≡ ms ++ run.Failed t exit ∷ [] → length (events_made ns) ≡ length (events_made ms)
failed_kept ms ns t exit e = ap (λ xs. length (events_made xs)) e ∙ ap length (made_both ms (run.Failed t exit ∷ []) ∙ append-nil (events_made ms))

pub event_kept : (ms ns : List RunMove) (x : Event) (choice : Choice) → ns ≡ ms ++ run.Event x choice ∷ [] → length (events_made ns) ≡ length (events_made ms) + 1
event_kept ms ns x choice e =
    ap (λ xs. length (events_made xs)) e ∙ ap length (made_both ms (run.Event x choice ∷ [])) ∙ length-append (events_made ms) (x ∷ [])
