use Rattle.std.proofs.Common.{◌≡◌, length}
use Rattle.term_table.specs.Views.{View}
use Rattle.js_ast.specs.declared.operators.DeclarationKind.TheVariants.{Let}
use Rattle.js_meaning.specs.Values.{Scope, Place}
use Rattle.js_meaning.specs.Running.{Outcome}
use Rattle.js_meaning.specs.Blocks.{declared_of}
use Rattle.js_meaning.specs.Loops.{copy_cells}
use Rattle.js_state.specs.Held.{scope_of}
use Rattle.js_state.specs.Playing.{Still}
use Rattle.js_state.specs.Seen.{place_of}
use Rattle.js_run_loops.proofs.copies.copy_names.Given as goal

abbrev pub invariant-copying : goal.invariant-copying
invariant-copying l = record {
  goes : (view : View) (go : Scope → Place → Outcome) → copy_cells (declared_of Let l.fn.declarators) (scope_of l.last) (scope_of l.fn.outer) (place_of view l.fn.state) go ≡ copy_cells (declared_of Let l.left) (scope_of l.last) (scope_of l.scope) (place_of view l.state) go;
  still : Still l.fn.state l.state;
}

abbrev pub decreases-copying : goal.decreases-copying
decreases-copying l = length l.left
