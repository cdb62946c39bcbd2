use Rattle.std.proofs.Common.{◌≡◌, length}
use Rattle.sat_core.proofs.touched.Touched.clear.Given as goal

abbrev pub invariant-loop-at : goal.invariant-loop-at
invariant-loop-at l = length l.self-inside.marks ≡ length l.fn.self
