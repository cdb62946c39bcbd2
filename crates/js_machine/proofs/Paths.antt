-- The path of a run, by what its moves were tracked along.
use Rattle.std.proofs.Common.{◌≡◌, ◌++◌, suc, List, [], refl, ap, sym, ◌∙◌}
use Rattle.std.proofs.lemmas.List.{append-nil}
use Rattle.path_core.specs.declared.path.Path.{Path}
use Rattle.js_ast.specs.declared.statement.Stmt.{Stmt}
use Rattle.js_meaning.specs.Values.{Place}
use Rattle.js_meaning.specs.Blocks.{block}
use Rattle.js_meaning.specs.Meaning.{stmts, calls_in, outermost, whole_of}
use Rattle.js_meaning.specs.Running.{Item, Completion as Ending, Outcome, done, after}
use Rattle.js_meaning.specs.Path.{events_of, end_of, path_by}
use Rattle.js_state.specs.declared.held.RunMove.{RunMove}
use Rattle.js_state.specs.Playing.{Follow, events_made}

-- the run's own view: its events, and the end at the place that it has come to
pub own_path : (ms : List RunMove) (whole : Outcome) (st : Place) (c : Ending) → Follow ms whole (λ w. w ≡ done st c) → path_by whole ≡ record { events = events_made ms; end = end_of st c }
own_path ms whole st c f =
    ap path_by (f.is ∙ ap (after f.items) f.on) ∙ ap (λ es. record { events = es; end = end_of st c }) (ap events_of (append-nil f.items) ∙ f.same)

-- a script is a block, run where as many turns bound its calls and its loops as are left
pub whole_is : (body : List Stmt) (st : Place) → block body (stmts body) (calls_in (suc st.turns)) st.turns outermost st ≡ whole_of body st
unfolding whole_of
whole_is body st = refl
