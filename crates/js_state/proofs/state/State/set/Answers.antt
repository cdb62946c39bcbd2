use Rattle.std.proofs.Common.{sym, ap, ◌∙◌}
use Rattle.term_table.specs.Views.{at}
use Rattle.js_meaning.specs.Objects.{written}
use Rattle.js_meaning.specs.Running.{done, given}
use Rattle.js_state.specs.Seen.{place_of}
use Rattle.js_state.proofs.ByBase.{sets_nothing, sets_primitive, sets_text, sets_object}
use Rattle.js_state.proofs.state.State.set.Goals as goal

pub returns-in_ok-completion-in-Nothing-clause-gives : goal.returns-in_ok-completion-in-Nothing-clause-gives
returns-in_ok-completion-in-Nothing-clause-gives c view =
    ap (λ o. written o (place_of view c.args.self.now) (λ st. done st (given (at view c.args.value)))) (sets_nothing view c.args.self.now.table c.args.base.now c.args.site c.args.key.now _ _ c.requires.base c.in-Nothing.ensures) ∙ c.in_ok-completion-in-Nothing.ensures.gives view

pub returns-in-Primitive-clause-gives : goal.returns-in-Primitive-clause-gives
returns-in-Primitive-clause-gives c view =
    ap (λ o. written o (place_of view c.args.self.now) (λ st. done st (given (at view c.args.value)))) (sets_primitive view c.args.self.now.table c.args.base.now c.args.site c.args.key.now _ _ c.requires.base c.in-Primitive.ensures) ∙ ap (λ e. done (place_of view c.args.self.now) e) (sym (c.left.ensures.gives view))

pub returns-in-Text-clause-gives : goal.returns-in-Text-clause-gives
returns-in-Text-clause-gives c view =
    ap (λ o. written o (place_of view c.args.self.now) (λ st. done st (given (at view c.args.value)))) (sets_text view c.args.self.now.table c.args.base.now c.in-Text.field-0 c.args.site c.args.key.now _ _ c.requires.base c.in-Text.ensures) ∙ ap (λ e. done (place_of view c.args.self.now) e) (sym (c.left-in-Text.ensures.gives view))

pub returns-in_ok-completion-in-Object-clause-gives : goal.returns-in_ok-completion-in-Object-clause-gives
returns-in_ok-completion-in-Object-clause-gives c view =
    ap (λ o. written o (place_of view c.args.self.now) (λ st. done st (given (at view c.args.value)))) (sets_object view c.args.self.now.table c.args.base.now c.in-Object.id c.args.site c.args.key.now _ _ c.requires.base c.in-Object.ensures) ∙ c.in_ok-completion-in-Object.ensures.gives view
