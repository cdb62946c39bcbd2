use Rattle.std.proofs.Common.{sym, ap, ◌∙◌}
use Rattle.cnf_core.specs.Validity.{among, leads}
use Rattle.cnf_core.specs.Derivations.{known_with}
use Rattle.proof_check.specs.Marking.{is_false, none_opposed}
use Rattle.proof_check.proofs.Units.{valid_as_leads, not_valid}
use Rattle.proof_check.proofs.checking.is_valid_step.Goals as goal

pub returns-then-none_opposed-clause-value : goal.returns-then-none_opposed-clause-value
returns-then-none_opposed-clause-value c =
    let known = known_with c.args.cnf.now c.args.earlier.now in
    let refused = is_false c.assume.new.marks in
    c.follows.ensures.value
    ∙ (ap (leads known refused) c.as_slice.ensures
    ∙ valid_as_leads known refused c.args.step.now.clause c.args.step.now.hints (c.assume.ensures.value ∙ ap among c.as_slice-clause.ensures)
    (sym c.if-none_opposed.true ∙ (c.none_opposed.ensures ∙ ap (none_opposed refused) c.as_slice-clause.ensures)))

pub returns-else-none_opposed-clause-value : goal.returns-else-none_opposed-clause-value
returns-else-none_opposed-clause-value c =
    let known = known_with c.args.cnf.now c.args.earlier.now in
    let refused = is_false c.assume.new.marks in
    c.if-none_opposed.false
    ∙ not_valid known refused c.args.step.now.clause c.args.step.now.hints (c.assume.ensures.value ∙ ap among c.as_slice-clause.ensures)
    (sym c.if-none_opposed.false ∙ (c.none_opposed.ensures ∙ ap (none_opposed refused) c.as_slice-clause.ensures))
