use Rattle.std.proofs.Common.{◌≡◌, ◌++◌, true, length}
use Rattle.std.specs.List.{list_all}
use Rattle.report_text.specs.Lines.{is_ascii}
use Rattle.report_text.proofs.items.push_name.Given as goal

abbrev pub invariant-loop-left : goal.invariant-loop-left
invariant-loop-left l = record {
  spelt : list_all is_ascii l.left ≡ true;
  written : l.out.items ++ l.left ≡ l.fn.out.items ++ l.name;
}

abbrev pub decreases-loop-left : goal.decreases-loop-left
decreases-loop-left l = length l.left
