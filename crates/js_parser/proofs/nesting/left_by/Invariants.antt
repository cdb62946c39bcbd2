use Rattle.std.proofs.Common.{◌≡◌, length, Some}
use Rattle.js_parser.specs.Nesting.{left_by}
use Rattle.js_parser.proofs.nesting.left_by.Given as goal

abbrev pub invariant-loop-inside : goal.invariant-loop-inside
invariant-loop-inside l = left_by l.left l.inside ≡ left_by (Some l.most) l.frames

abbrev pub decreases-loop-inside : goal.decreases-loop-inside
decreases-loop-inside l = length l.inside
