use Rattle.std.proofs.Common.{◌≡◌, length}
use Rattle.term_table.specs.Views.{View}
use Rattle.js_meaning.specs.Blocks.{declare}
use Rattle.js_meaning.specs.Meaning.{expr}
use Rattle.js_state.specs.Held.{scope_of}
use Rattle.js_state.specs.Playing.{Still}
use Rattle.js_state.specs.Seen.{place_of}
use Rattle.js_frames.specs.Machine.{Fuel, calling}
use Rattle.js_run_blocks.proofs.declarations.declare.Given as goal

abbrev pub invariant-names : goal.invariant-names
invariant-names l = record {
  goes : (view : View) (w : Fuel) → declare expr l.fn.declarators (calling w) w.loops (scope_of l.fn.scope) (place_of view l.fn.state) ≡ declare expr l.left (calling w) w.loops (scope_of l.fn.scope) (place_of view l.state);
  still : Still l.fn.state l.state;
  same : l.frames ≡ l.fn.frames;
}

abbrev pub decreases-names : goal.decreases-names
decreases-names l = length l.left
