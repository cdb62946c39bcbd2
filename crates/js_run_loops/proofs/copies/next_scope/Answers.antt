use Rattle.std.proofs.Common.{◌∙◌, ap, sym}
use Rattle.js_ast.specs.declared.operators.DeclarationKind.TheVariants.{Let}
use Rattle.js_meaning.specs.Running.{Outcome}
use Rattle.js_meaning.specs.Blocks.{declared_of}
use Rattle.js_meaning.specs.Loops.{next_scope}
use Rattle.js_state.specs.Held.{scope_of}
use Rattle.js_state.specs.Seen.{place_of}
use Rattle.js_frames.proofs.Passing.{list_none}
use Rattle.js_run_loops.proofs.Copying.{next_copies}
use Rattle.js_run_loops.proofs.copies.next_scope.Goals as goal

pub returns-in-empty-clause-goes : goal.returns-in-empty-clause-goes
returns-in-empty-clause-goes c view go =
    ap {B = Outcome} (λ ds. next_scope ds (scope_of c.args.last) (scope_of c.args.outer) (place_of view c.args.state.now) go) (sym c.copied-names.ensures)
    ∙ ap {B = Outcome} (λ ds. next_scope (declared_of Let ds) (scope_of c.args.last) (scope_of c.args.outer) (place_of view c.args.state.now) go) (list_none c.copied-names.result.now c.in-empty.len_below)

pub returns-in_ok-scope-in-len1-up-clause-goes : goal.returns-in_ok-scope-in-len1-up-clause-goes
returns-in_ok-scope-in-len1-up-clause-goes c view go =
    ap {B = Outcome} (λ ds. next_scope ds (scope_of c.args.last) (scope_of c.args.outer) (place_of view c.args.state.now) go) (sym c.copied-names.ensures)
    ∙ next_copies c.copied-names.result.now (scope_of c.args.last) (scope_of c.args.outer) (place_of view c.args.state.now) go c.in-len1-up.len_at_least
    ∙ c.in_ok-scope-in-len1-up.ensures.goes view go
