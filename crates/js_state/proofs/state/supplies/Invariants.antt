use Rattle.std.proofs.Common.{◌≡◌, ◌++◌, length, map}
use Rattle.term_table.specs.Views.{View}
use Rattle.js_meaning.specs.Path.{inputs_of}
use Rattle.js_state.specs.Fitting.{AllOf, IsSupplied, AreSupplied}
use Rattle.js_state.specs.Seen.{supplied_at}
use Rattle.js_state.proofs.state.supplies.Given as goal

abbrev pub invariant-loop-left : goal.invariant-loop-left
invariant-loop-left l = record {
  seen : (view : View) → map (supplied_at view) l.inputs ++ inputs_of l.left l.given ≡ inputs_of l.fn.declared l.fn.values;
  all : AllOf IsSupplied l.inputs;
  rest : AreSupplied l.left l.given;
}

abbrev pub decreases-loop-left : goal.decreases-loop-left
decreases-loop-left l = length l.left
