use Rattle.std.proofs.Common.{◌≡◌, length, map, List, Option}
use Rattle.term_table.specs.Views.{View}
use Rattle.term_table.specs.declared.shadow.Shadow.{Shadow}
use Rattle.js_meaning.specs.Names.{resolve}
use Rattle.js_state.specs.Held.{cells_of}
use Rattle.js_state.specs.Seen.{binding_at}
use Rattle.js_state.proofs.cells.resolve.Given as goal

abbrev pub invariant-loop-left : goal.invariant-loop-left
invariant-loop-left l = (view : View) (values : List (Option Shadow)) → length l.names ≡ length values → resolve l.left (map (binding_at view) (cells_of l.names values)) l.cell l.name ≡ resolve (length l.names) (map (binding_at view) (cells_of l.names values)) l.fn.cell l.name

abbrev pub decreases-loop-left : goal.decreases-loop-left
decreases-loop-left l = l.left
