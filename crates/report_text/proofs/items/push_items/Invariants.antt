use Rattle.std.proofs.Common.{◌≡◌, ◌++◌, true, length}
use Rattle.std.specs.List.{flat_map, list_all}
use Rattle.report_text.specs.Lines.{item_text, is_item_spelt}
use Rattle.report_text.proofs.items.push_items.Given as goal

abbrev pub invariant-loop-left : goal.invariant-loop-left
invariant-loop-left l = record {
  spelt : list_all is_item_spelt l.left ≡ true;
  written : l.out.items ++ flat_map item_text l.left ≡ l.fn.out.items ++ flat_map item_text l.items;
}

abbrev pub decreases-loop-left : goal.decreases-loop-left
decreases-loop-left l = length l.left
