use Rattle.std.proofs.Common.{refl, ◌∙◌, ap, sym}
use Rattle.js_meaning.specs.Running.{done}
use Rattle.js_state.specs.Seen.{place_of}
use Rattle.js_frames.proofs.Steps.{stays, leads}
use Rattle.js_frames.proofs.Opens as opens
use Rattle.js_meaning.specs.Running.{count, given}
use Rattle.js_run_expressions.proofs.expressions.begin.Goals as goal

pub returns-in_ok-completion-in-Name-clause-leads : goal.returns-in_ok-completion-in-Name-clause-leads
returns-in_ok-completion-in-Name-clause-leads c = leads (stays c.in_ok-completion-in-Name.ensures.quiet refl (λ view w. rw (← c.get.ensures, c.in-Name.is, opens.expr_Name) (c.in_ok-completion-in-Name.ensures.gives view)))

pub returns-in-Number-clause-leads : goal.returns-in-Number-clause-leads
returns-in-Number-clause-leads c = leads (stays c.number.ensures.quiet refl (λ view w. rw (← c.get.ensures, c.in-Number.is, opens.expr_Number) (c.number.ensures.gives view)))

pub returns-in_ok-completion-in-Text-clause-leads : goal.returns-in_ok-completion-in-Text-clause-leads
returns-in_ok-completion-in-Text-clause-leads c = leads (stays c.in_ok-completion-in-Text.ensures.quiet refl (λ view w. rw (← c.get.ensures, c.in-Text.is, opens.expr_Text) (c.in_ok-completion-in-Text.ensures.gives view)))

pub returns-in-Null-clause-leads : goal.returns-in-Null-clause-leads
returns-in-Null-clause-leads c = leads (stays c.constant.ensures.quiet refl (λ view w. rw (← c.get.ensures, c.in-Null.is, opens.expr_Null) (c.constant.ensures.gives view)))

pub returns-in-True-clause-leads : goal.returns-in-True-clause-leads
returns-in-True-clause-leads c = leads (stays c.constant-in-True.ensures.quiet refl (λ view w. rw (← c.get.ensures, c.in-True.is, opens.expr_True) (c.constant-in-True.ensures.gives view)))

pub returns-in-False-clause-leads : goal.returns-in-False-clause-leads
returns-in-False-clause-leads c = leads (stays c.constant-in-False.ensures.quiet refl (λ view w. rw (← c.get.ensures, c.in-False.is, opens.expr_False) (c.constant-in-False.ensures.gives view)))

pub returns-in-This-clause-leads : goal.returns-in-This-clause-leads
returns-in-This-clause-leads c = leads (stays c.constant-in-This.ensures.quiet refl (λ view w. rw (← c.get.ensures, c.in-This.is, opens.expr_This) (ap (λ x. count c.in-This.site (place_of view c.args.state.now) (λ st. done st (given x))) (sym c.this_plain.ensures.value) ∙ c.constant-in-This.ensures.gives view)))

pub returns-in_ok-work-in-Array-clause-leads : goal.returns-in_ok-work-in-Array-clause-leads
returns-in_ok-work-in-Array-clause-leads c = rw (← c.get.ensures, c.in-Array.is, ← c.as_slice.ensures) c.in_ok-work-in-Array.ensures.leads

pub returns-in_ok-work-in-Object-clause-leads : goal.returns-in_ok-work-in-Object-clause-leads
returns-in_ok-work-in-Object-clause-leads c = rw (← c.get.ensures, c.in-Object.is, ← c.as_slice-in-Object.ensures) c.in_ok-work-in-Object.ensures.leads

pub returns-in_ok-completion-in-FunctionExpression-clause-leads : goal.returns-in_ok-completion-in-FunctionExpression-clause-leads
returns-in_ok-completion-in-FunctionExpression-clause-leads c = leads (stays c.in_ok-completion-in-FunctionExpression.ensures.quiet refl (λ view w. rw (← c.get.ensures, c.in-FunctionExpression.is, opens.expr_Function, ← c.as_slice-in-FunctionExpression.ensures, ← c.as_slice-in-FunctionExpression-2.ensures) (c.in_ok-completion-in-FunctionExpression.ensures.gives view)))

pub returns-in_ok-completion-in-Arrow-clause-leads : goal.returns-in_ok-completion-in-Arrow-clause-leads
returns-in_ok-completion-in-Arrow-clause-leads c = leads (stays c.in_ok-completion-in-Arrow.ensures.quiet refl (λ view w. rw (← c.get.ensures, c.in-Arrow.is, opens.expr_Arrow, ← c.as_slice-in-Arrow.ensures) (c.in_ok-completion-in-Arrow.ensures.gives view)))

pub returns-in_ok-completion-in-ArrowBlock-clause-leads : goal.returns-in_ok-completion-in-ArrowBlock-clause-leads
returns-in_ok-completion-in-ArrowBlock-clause-leads c = leads (stays c.in_ok-completion-in-ArrowBlock.ensures.quiet refl (λ view w. rw (← c.get.ensures, c.in-ArrowBlock.is, opens.expr_ArrowBlock, ← c.as_slice-in-ArrowBlock.ensures, ← c.as_slice-in-ArrowBlock-2.ensures) (c.in_ok-completion-in-ArrowBlock.ensures.gives view)))

pub returns-in_ok-work-in-New-clause-leads : goal.returns-in_ok-work-in-New-clause-leads
returns-in_ok-work-in-New-clause-leads c = rw (← c.get.ensures, c.in-New.is, ← c.as_slice-in-New.ensures) c.in_ok-work-in-New.ensures.leads

pub returns-in_ok-work-in-Unary-clause-leads : goal.returns-in_ok-work-in-Unary-clause-leads
returns-in_ok-work-in-Unary-clause-leads c = rw (← c.get.ensures, c.in-Unary.is) c.in_ok-work-in-Unary.ensures.leads

pub returns-in_ok-work-in-Step-clause-leads : goal.returns-in_ok-work-in-Step-clause-leads
returns-in_ok-work-in-Step-clause-leads c = rw (← c.get.ensures, c.in-Step.is) c.in_ok-work-in-Step.ensures.leads

pub returns-in_ok-work-in-Conditional-clause-leads : goal.returns-in_ok-work-in-Conditional-clause-leads
returns-in_ok-work-in-Conditional-clause-leads c = rw (← c.get.ensures, c.in-Conditional.is) c.in_ok-work-in-Conditional.ensures.leads

pub returns-in_ok-work-in-Assign-clause-leads : goal.returns-in_ok-work-in-Assign-clause-leads
returns-in_ok-work-in-Assign-clause-leads c = rw (← c.get.ensures, c.in-Assign.is) c.in_ok-work-in-Assign.ensures.leads

pub returns-in-Call-clause-leads : goal.returns-in-Call-clause-leads
returns-in-Call-clause-leads c = absurd (c.requires.call _ _ (sym c.get.ensures ∙ c.in-Call.is))

pub returns-in-Call-clause-falls : goal.returns-in-Call-clause-falls
returns-in-Call-clause-falls c = absurd (c.requires.call _ _ (sym c.get.ensures ∙ c.in-Call.is))

pub returns-in-Call-clause-earns : goal.returns-in-Call-clause-earns
returns-in-Call-clause-earns c = absurd (c.requires.call _ _ (sym c.get.ensures ∙ c.in-Call.is))

pub returns-in-Call-clause-fits : goal.returns-in-Call-clause-fits
returns-in-Call-clause-fits c = absurd (c.requires.call _ _ (sym c.get.ensures ∙ c.in-Call.is))

pub returns-in-Binary-clause-leads : goal.returns-in-Binary-clause-leads
returns-in-Binary-clause-leads c = absurd (c.requires.binary _ _ (sym c.get.ensures ∙ c.in-Binary.is))

pub returns-in-Binary-clause-falls : goal.returns-in-Binary-clause-falls
returns-in-Binary-clause-falls c = absurd (c.requires.binary _ _ (sym c.get.ensures ∙ c.in-Binary.is))

pub returns-in-Binary-clause-earns : goal.returns-in-Binary-clause-earns
returns-in-Binary-clause-earns c = absurd (c.requires.binary _ _ (sym c.get.ensures ∙ c.in-Binary.is))

pub returns-in-Binary-clause-fits : goal.returns-in-Binary-clause-fits
returns-in-Binary-clause-fits c = absurd (c.requires.binary _ _ (sym c.get.ensures ∙ c.in-Binary.is))

pub returns-in-Logical-clause-leads : goal.returns-in-Logical-clause-leads
returns-in-Logical-clause-leads c = absurd (c.requires.logical _ _ (sym c.get.ensures ∙ c.in-Logical.is))

pub returns-in-Logical-clause-falls : goal.returns-in-Logical-clause-falls
returns-in-Logical-clause-falls c = absurd (c.requires.logical _ _ (sym c.get.ensures ∙ c.in-Logical.is))

pub returns-in-Logical-clause-earns : goal.returns-in-Logical-clause-earns
returns-in-Logical-clause-earns c = absurd (c.requires.logical _ _ (sym c.get.ensures ∙ c.in-Logical.is))

pub returns-in-Logical-clause-fits : goal.returns-in-Logical-clause-fits
returns-in-Logical-clause-fits c = absurd (c.requires.logical _ _ (sym c.get.ensures ∙ c.in-Logical.is))
