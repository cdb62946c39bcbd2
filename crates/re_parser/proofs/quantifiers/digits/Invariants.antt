use Rattle.std.proofs.Common.{◌≡◌, ◌≤◌, length}
use Rattle.re_parser.specs.Quantifiers.{digits_from}
use Rattle.re_parser.proofs.quantifiers.digits.Given as goal

abbrev pub invariant-loop-left : goal.invariant-loop-left
invariant-loop-left l = (digits_from l.value l.left ≡ digits_from 0 l.units) × (l.value ≤ 65536) × (length l.left ≤ length l.units)

abbrev pub decreases-loop-left : goal.decreases-loop-left
decreases-loop-left l = length l.left
