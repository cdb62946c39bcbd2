use Rattle.std.proofs.Common.{length}
use Rattle.re_parser.specs.Reading.{IsStep, AreBacks, start}
use Rattle.re_parser.proofs.reader.read_all.Given as goal

abbrev pub invariant-loop-left : goal.invariant-loop-left
invariant-loop-left l = IsStep start l.units (l.reader, l.left) × AreBacks l.units l.reader.backs

abbrev pub decreases-loop-left : goal.decreases-loop-left
decreases-loop-left l = length l.left
