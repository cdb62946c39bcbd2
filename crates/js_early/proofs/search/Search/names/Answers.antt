use Rattle.std.proofs.Common.{ap, ◌∙◌}
use Rattle.std.specs.List.{flat_map}
use Rattle.js_early.specs.Early.{scope}
use Rattle.js_early.specs.Parts.{least_with}
use Rattle.js_early.specs.Search.{Known, tree_places}
use Rattle.js_early.proofs.Turns.{least_swap}
use Rattle.js_early.proofs.search.Search.names.Goals as goal

pub returns-clause-least : goal.returns-clause-least
returns-clause-least c = ap (λ found. least_with found (flat_map tree_places c.self.inside.left.items)) c.in_ok-in_scope.ensures
    ∙ least_swap c.self.inside.found (scope c.args.names.now) (flat_map tree_places c.self.inside.left.items)
    ∙ ap (λ (known : Known). least_with known.least (scope c.args.names.now)) c.self.view_is
