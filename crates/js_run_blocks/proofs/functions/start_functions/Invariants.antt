use Rattle.std.proofs.Common.{◌≡◌, length}
use Rattle.term_table.specs.Views.{View}
use Rattle.js_meaning.specs.Blocks.{start_functions}
use Rattle.js_meaning.specs.Running.{Outcome}
use Rattle.js_meaning.specs.Values.{Place}
use Rattle.js_state.specs.Held.{scope_of}
use Rattle.js_state.specs.Playing.{Still}
use Rattle.js_state.specs.Seen.{place_of}
use Rattle.js_run_blocks.proofs.functions.start_functions.Given as goal

abbrev pub invariant-functions : goal.invariant-functions
invariant-functions l = record {
  goes : (view : View) (go : Place → Outcome) → start_functions l.fn.body (scope_of l.fn.scope) (place_of view l.fn.state) go ≡ start_functions l.left (scope_of l.fn.scope) (place_of view l.state) go;
  still : Still l.fn.state l.state;
}

abbrev pub decreases-functions : goal.decreases-functions
decreases-functions l = length l.left
