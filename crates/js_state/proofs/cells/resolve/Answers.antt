use Rattle.std.proofs.Common.{sym, ◌∙◌}
use Rattle.js_state.proofs.Bindings.{finds_none, finds_no_cell, finds_here, finds_on}
use Rattle.js_state.proofs.cells.resolve.Goals as goal

pub returns-in_default-clause-gives : goal.returns-in_default-clause-gives
returns-in_default-clause-gives c view values e = sym (finds_none _ _ _ _ c.in_default.is) ∙ c.loop-left.invariant view values e

pub returns-in_default-at-clause-gives : goal.returns-in_default-at-clause-gives
returns-in_default-at-clause-gives c view values e = sym (finds_no_cell view _ c.args.names.now values _ _ _ c.in-Some.is (sym c.in_default-at.ensures)) ∙ c.loop-left.invariant view values e

pub returns-then-equals-clause-gives : goal.returns-then-equals-clause-gives
returns-then-equals-clause-gives c view values e = sym (finds_here view _ c.args.names.now values _ _ _ _ e c.loop-left-test.true c.in-Some.is (sym c.in-Some-at.ensures) (sym c.if-equals.ensures)) ∙ c.loop-left.invariant view values e

pub loop-left-preserved : goal.loop-left-preserved
loop-left-preserved c view values e = sym (finds_on view _ c.args.names.now values _ _ _ _ e c.loop-left-test.true c.in-Some.is (sym c.in-Some-at.ensures) (sym c.if-equals.ensures)) ∙ c.loop-left.invariant view values e
