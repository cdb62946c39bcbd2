use Rattle.std.proofs.Common.{◌≡◌, length, map}
use Rattle.term_table.specs.Views.{View}
use Rattle.js_meaning.specs.Objects.{look_up}
use Rattle.js_state.specs.Seen.{supplied_at}
use Rattle.js_state.specs.Fitting.{AllOf, IsSupplied}
use Rattle.js_state.proofs.cells.supplied.Given as goal

abbrev pub invariant-loop-left : goal.invariant-loop-left
invariant-loop-left l = record {
  same : (view : View) → look_up l.name (map (supplied_at view) l.left) ≡ look_up l.name (map (supplied_at view) l.inputs);
  all : AllOf IsSupplied l.left;
}

abbrev pub decreases-loop-left : goal.decreases-loop-left
decreases-loop-left l = length l.left
