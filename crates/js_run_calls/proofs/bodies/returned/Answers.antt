use Rattle.std.proofs.Common.{refl, arith}
use Rattle.term_table.specs.declared.shadow.Plain.TheVariants.{Undefined}
use Rattle.term_table.proofs.Views.{at_plain}
use Rattle.js_run_calls.proofs.Layers.{other_returns, other_costs}
use Rattle.js_run_calls.proofs.bodies.returned.Goals as goal

pub returns-in-Return-clause-gives : goal.returns-in-Return-clause-gives
returns-in-Return-clause-gives c = λ view. rw (c.in-Return.is, c.end_activation.ensures.gives view) refl

pub returns-in-Throw-clause-gives : goal.returns-in-Throw-clause-gives
returns-in-Throw-clause-gives c = λ view. rw (c.in-Throw.is, c.end_activation-in-Throw.ensures.gives view) refl

pub returns-in_default-clause-gives : goal.returns-in_default-clause-gives
returns-in_default-clause-gives c = λ view. rw (c.end_activation-in_default.ensures.gives view, at_plain view Undefined) (other_returns view _ c.args.completion c.in_default.not-Stop c.in_default.not-Return c.in_default.not-Throw)

pub returns-in_default-clause-cost : goal.returns-in_default-clause-cost
returns-in_default-clause-cost c = rw (other_costs c.args.completion c.in_default.not-Stop) (omega arith)
