use Rattle.std.proofs.Common.{◌≡◌, ◌++◌, true, length}
use Rattle.std.specs.List.{flat_map, list_all}
use Rattle.report_text.specs.Lines.{tried_text, are_items_spelt}
use Rattle.report_text.proofs.questions.push_tried.Given as goal

abbrev pub invariant-loop-left : goal.invariant-loop-left
invariant-loop-left l = record {
  spelt : list_all are_items_spelt l.left ≡ true;
  written : l.out.items ++ flat_map tried_text l.left ≡ l.fn.out.items ++ flat_map tried_text l.tried;
}

abbrev pub decreases-loop-left : goal.decreases-loop-left
decreases-loop-left l = length l.left
