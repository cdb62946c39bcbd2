use Rattle.std.proofs.Common.{◌≡◌, ◌+◌, drop}
use Rattle.std.specs.List.{flat_map, sum_by}
use Rattle.js_early.specs.Parts.{least_with, suffix_places}
use Rattle.js_early.specs.Weight.{suffix_weight}
use Rattle.js_early.proofs.parts.in_suffixes.Given as goal

abbrev pub invariant-loop-suffix : goal.invariant-loop-suffix
invariant-loop-suffix l =
    (least_with l.search.least (flat_map suffix_places (drop l.suffix-index l.suffixes)) ≡ least_with l.fn.search.least (flat_map suffix_places l.fn.suffixes))
    × (l.search.weight + sum_by suffix_weight (drop l.suffix-index l.suffixes) ≡ l.fn.search.weight + sum_by suffix_weight l.fn.suffixes)
