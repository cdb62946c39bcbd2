use Rattle.std.proofs.Common.{◌≡◌, take}
use Rattle.sat_core.specs.Starting.{Starting}
use Rattle.sat_core.proofs.starting.set_up.Given as goal

abbrev pub invariant-loop-clause : goal.invariant-loop-clause
invariant-loop-clause l = record {
  start : Starting (take l.clause-index l.cnf.clauses) l.watches l.trail;
  same : l.trail.variables ≡ l.cnf.variables;
}
