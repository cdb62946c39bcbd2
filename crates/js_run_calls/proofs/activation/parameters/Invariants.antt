use Rattle.std.proofs.Common.{◌≡◌, length, map}
use Rattle.term_table.specs.Fitting.{Fits}
use Rattle.term_table.specs.Views.{View, at}
use Rattle.js_meaning.specs.Values.{Scope, Place}
use Rattle.js_meaning.specs.Running.{Outcome}
use Rattle.js_meaning.specs.Blocks.{open_parameters}
use Rattle.js_state.specs.Fitting.{AllOf}
use Rattle.js_state.specs.Held.{scope_of}
use Rattle.js_state.specs.Playing.{Still}
use Rattle.js_state.specs.Seen.{place_of}
use Rattle.js_run_calls.proofs.activation.parameters.Given as goal

abbrev pub invariant-loop-left : goal.invariant-loop-left
invariant-loop-left l = record {
  goes : (view : View) (go : Scope → Place → Outcome) → open_parameters l.left (map (at view) l.given) (scope_of l.inner) (place_of view l.state) go ≡ open_parameters l.fn.names (map (at view) l.fn.values) (scope_of l.fn.scope) (place_of view l.fn.state) go;
  still : Still l.fn.state l.state;
  fits : AllOf (Fits l.fn.state.table) l.given;
}

abbrev pub decreases-loop-left : goal.decreases-loop-left
decreases-loop-left l = length l.left
