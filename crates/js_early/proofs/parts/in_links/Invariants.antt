use Rattle.std.proofs.Common.{◌≡◌, ◌+◌, drop}
use Rattle.js_early.specs.Parts.{least_with, links_places}
use Rattle.js_early.specs.Weight.{links_weight}
use Rattle.js_early.proofs.parts.in_links.Given as goal

abbrev pub invariant-loop-link : goal.invariant-loop-link
invariant-loop-link g l =
    (least_with l.search.least (links_places (drop l.link-index l.links)) ≡ least_with l.fn.search.least (links_places l.fn.links))
    × (l.search.weight + links_weight (drop l.link-index l.links) ≡ l.fn.search.weight + links_weight l.fn.links)
