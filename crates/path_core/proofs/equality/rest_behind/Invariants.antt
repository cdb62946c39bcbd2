use Rattle.std.proofs.Common.{◌≡◌, ◌++◌, List, length}
use Rattle.path_core.specs.declared.path.Event.{Event}
use Rattle.path_core.proofs.equality.rest_behind.Given as goal

abbrev pub invariant-loop-left : goal.invariant-loop-left
invariant-loop-left l = record {
  onward : (rest : List Event) → l.behind ≡ l.left ++ rest → l.events ≡ l.prefix ++ rest;
  back : (rest : List Event) → l.events ≡ l.prefix ++ rest → l.behind ≡ l.left ++ rest;
}

abbrev pub decreases-loop-left : goal.decreases-loop-left
decreases-loop-left l = length l.left
