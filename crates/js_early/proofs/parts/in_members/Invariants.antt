use Rattle.std.proofs.Common.{◌≡◌, ◌+◌, drop}
use Rattle.std.specs.List.{flat_map, sum_by}
use Rattle.js_early.specs.Parts.{least_with, member_places}
use Rattle.js_early.specs.Weight.{member_weight}
use Rattle.js_early.proofs.parts.in_members.Given as goal

abbrev pub invariant-loop-member : goal.invariant-loop-member
invariant-loop-member l =
    (least_with l.search.least (flat_map member_places (drop l.member-index l.members)) ≡ least_with l.fn.search.least (flat_map member_places l.fn.members))
    × (l.search.weight + sum_by member_weight (drop l.member-index l.members) ≡ l.fn.search.weight + sum_by member_weight l.fn.members)
