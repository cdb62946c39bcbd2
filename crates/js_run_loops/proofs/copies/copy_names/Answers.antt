use Rattle.std.proofs.Common.{List, refl, ◌∙◌, ap}
use Rattle.js_ast.specs.declared.expression.Expr.{Expr}
use Rattle.js_ast.specs.declared.parts.Declarator.{Declarator}
use Rattle.js_ast.specs.declared.operators.DeclarationKind.TheVariants.{Let}
use Rattle.js_meaning.specs.Running.{Outcome}
use Rattle.js_meaning.specs.Blocks.{declared_of}
use Rattle.js_meaning.specs.Loops.{copy_cells}
use Rattle.js_state.specs.Held.{scope_of}
use Rattle.js_state.specs.Seen.{place_of}
use Rattle.js_state.proofs.Found.{result_ok, result_err}
use Rattle.js_frames.proofs.Steps.{still_both}
use Rattle.js_frames.proofs.Passing.{list_none, list_more}
use Rattle.js_run_loops.proofs.Copying.{copies_one}
use Rattle.js_run_loops.proofs.copies.copy_names.Goals as goal

pub copying-init : goal.copying-init
copying-init c = record { goes = λ view go. refl; still = record { turns = refl; nodes = refl; moves = refl; table = refl; keeps = refl; spends = refl } }

pub returns-in-Err-clause-goes : goal.returns-in-Err-clause-goes
returns-in-Err-clause-goes c view go = c.copying.invariant.goes view go ∙ ap {B = Outcome} (λ (ds : List (Declarator Expr)). copy_cells (declared_of Let ds) (scope_of c.args.last) (scope_of c.copying.scope) (place_of view c.copying.state) go) (list_more c.copying.left.now c.first-item.result c.in-len1-up.len_at_least c.first-item.is) ∙ result_err view _ _ _ c.in-Err.is (copies_one view c.first-item.result _ c.args.last c.copying.scope c.copying.state c.open_cell.new.self _ _ go (c.in_ok-value.ensures.gives view) (c.in_ok-opened.ensures.goes view))

pub returns-in-Err-clause-still : goal.returns-in-Err-clause-still
returns-in-Err-clause-still c = still_both c.copying.invariant.still c.in_ok-opened.ensures.still

pub copying-preserved : goal.copying-preserved
copying-preserved c = record {
  goes = λ view go. c.copying.invariant.goes view go ∙ ap {B = Outcome} (λ (ds : List (Declarator Expr)). copy_cells (declared_of Let ds) (scope_of c.args.last) (scope_of c.copying.scope) (place_of view c.copying.state) go) (list_more c.copying.left.now c.first-item.result c.in-len1-up.len_at_least c.first-item.is) ∙ result_ok view _ _ _ _ c.in-Ok.is (copies_one view c.first-item.result _ c.args.last c.copying.scope c.copying.state c.open_cell.new.self _ _ go (c.in_ok-value.ensures.gives view) (c.in_ok-opened.ensures.goes view));
  still = still_both c.copying.invariant.still c.in_ok-opened.ensures.still;
}

pub returns-clause-goes : goal.returns-clause-goes
returns-clause-goes c view go = c.copying.invariant.goes view go ∙ ap {B = Outcome} (λ (ds : List (Declarator Expr)). copy_cells (declared_of Let ds) (scope_of c.args.last) (scope_of c.copying.scope) (place_of view c.copying.state) go) (list_none c.copying.left.now c.in_default.len_below)
