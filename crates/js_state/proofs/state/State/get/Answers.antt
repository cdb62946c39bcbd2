use Rattle.std.proofs.Common.{ap, ◌∙◌}
use Rattle.js_meaning.specs.Running.{play}
use Rattle.js_state.specs.Seen.{place_of}
use Rattle.js_state.proofs.ByBase.{of_nothing, of_primitive, of_object}
use Rattle.js_state.proofs.state.State.get.Goals as goal

pub returns-in_ok-completion-in-Object-clause-gives :
    goal.returns-in_ok-completion-in-Object-clause-gives
returns-in_ok-completion-in-Object-clause-gives c view =
    ap (λ row. play row (place_of view c.args.self.now)) (of_object view c.args.self.now.table c.args.base.now c.in-Object.id c.args.site c.args.key.now _ c.requires c.in-Object.ensures) ∙ c.in_ok-completion-in-Object.ensures.gives view

pub returns-in_ok-completion-in-Primitive-clause-gives :
    goal.returns-in_ok-completion-in-Primitive-clause-gives
returns-in_ok-completion-in-Primitive-clause-gives c view =
    ap (λ row. play row (place_of view c.args.self.now)) (of_primitive view c.args.self.now.table c.args.base.now c.args.site c.args.key.now _ c.requires c.in-Primitive.ensures) ∙ c.in_ok-completion-in-Primitive.ensures.gives view

pub returns-in_ok-completion-in-Nothing-clause-gives :
    goal.returns-in_ok-completion-in-Nothing-clause-gives
returns-in_ok-completion-in-Nothing-clause-gives c view =
    ap (λ row. play row (place_of view c.args.self.now)) (of_nothing view c.args.self.now.table c.args.base.now c.args.site c.args.key.now _ c.requires c.in-Nothing.ensures) ∙ c.in_ok-completion-in-Nothing.ensures.gives view
