use Rattle.std.proofs.Common.{◌≡◌, ◌+◌, [], length}
use Rattle.std.specs.Prelude.{All}
use Rattle.serde_json.specs.View.{items_view}
use Rattle.path_core.specs.Accepted.{IsAccepted}
use Rattle.path_core.specs.Form.{declared_from}
use Rattle.path_core.proofs.reading.all_declared.Given as goal

abbrev pub invariant-loop-left : goal.invariant-loop-left
invariant-loop-left l = record {
  form : declared_from l.found (items_view l.left) ≡ declared_from [] (items_view l.inputs);
  accepted : All IsAccepted l.found;
  each : length l.found + length l.left ≡ length l.inputs;
}

abbrev pub decreases-loop-left : goal.decreases-loop-left
decreases-loop-left l = length l.left
