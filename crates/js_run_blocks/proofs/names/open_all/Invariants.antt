use Rattle.std.proofs.Common.{◌≡◌, length}
use Rattle.term_table.specs.Views.{View}
use Rattle.js_meaning.specs.Blocks.{names_of, open_names}
use Rattle.js_meaning.specs.Running.{Outcome}
use Rattle.js_meaning.specs.Values.{Scope, Place}
use Rattle.js_state.specs.Held.{scope_of}
use Rattle.js_state.specs.Playing.{Still}
use Rattle.js_state.specs.Seen.{place_of}
use Rattle.js_run_blocks.proofs.names.open_all.Given as goal

abbrev pub invariant-names : goal.invariant-names
invariant-names l = record {
  goes : (view : View) (go : Scope → Place → Outcome) → open_names (names_of l.fn.body) (scope_of l.fn.scope) (place_of view l.fn.state) go ≡ open_names (names_of l.left) (scope_of l.inner) (place_of view l.state) go;
  still : Still l.fn.state l.state;
}

abbrev pub decreases-names : goal.decreases-names
decreases-names l = length l.left
