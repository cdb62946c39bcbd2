use Rattle.std.proofs.Common.{take}
use Rattle.sat_core.specs.Cuts.{Marks}
use Rattle.sat_core.proofs.touched.Touched.mark_all.Given as goal

abbrev pub invariant-loop-lit : goal.invariant-loop-lit
invariant-loop-lit l = Marks l.initial.self l.self (take l.lit-index l.clause)
