use Rattle.std.proofs.Common.{◌+◌, ◌-◌, ◌*◌, ◌≡◌, length}
use Rattle.sat_core.specs.Trails.{is_false}
use Rattle.sat_core.specs.Searches.{Searches}
use Rattle.sat_core.proofs.Room.{room}
use Rattle.sat_core.proofs.searching.search.Given as goal

abbrev pub invariant-loop-conflict : goal.invariant-loop-conflict
invariant-loop-conflict l = record {
  search : Searches l.cnf l.budget l.steps l.watches l.trail l.head;
  long : length l.resolvent.marks ≡ l.cnf.variables;
}

abbrev pub decreases-loop-conflict : goal.decreases-loop-conflict
decreases-loop-conflict l = (l.budget - length l.steps) * (l.cnf.variables + 1) + room l.cnf.variables (is_false l.trail)
