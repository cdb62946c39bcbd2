use Rattle.std.proofs.Common.{◌≡◌, ◌++◌, map, length}
use Rattle.std.specs.List.{flat_map}
use Rattle.report_text.specs.Lines.{line_text, shown, AreSpelt}
use Rattle.report_text.proofs.report.push_lines.Given as goal

abbrev pub invariant-loop-left : goal.invariant-loop-left
invariant-loop-left l = record {
  spelt : AreSpelt l.left;
  written : l.out.items ++ flat_map line_text (map (shown l.blocks) l.left) ≡ l.fn.out.items ++ flat_map line_text (map (shown l.blocks) l.lines);
}

abbrev pub decreases-loop-left : goal.decreases-loop-left
decreases-loop-left l = length l.left
