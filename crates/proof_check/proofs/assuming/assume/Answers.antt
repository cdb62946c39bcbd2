use Rattle.std.proofs.Common.{ℤ, Bool, ◌||◌, take, get_or, sym, ap, ◌∙◌}
use Rattle.std.proofs.Math.Bool.{or_comm}
use Rattle.std.proofs.lemmas.List.Folds.{list_any_more}
use Rattle.std.specs.Ordering.{int_eq}
use Rattle.cnf_core.specs.Validity.{among}
use Rattle.proof_check.proofs.assuming.assume.Goals as goal

pub loop-lit-preserved : goal.loop-lit-preserved
loop-lit-preserved c = record {
  is_false = λ k.
      let before = among (take c.loop-lit.lit-index c.args.clause.now) k in
      ap (λ (refused : ℤ → Bool). refused k) c.falsify.ensures.value
      ∙ (ap (λ b. int_eq c.lit-item.result k || b) (c.loop-lit.invariant.is_false k)
      ∙ (ap (λ x. int_eq x k || before) c.lit-item.is
      ∙ (or_comm (int_eq (get_or c.args.clause.now c.loop-lit.lit-index c.lit-item.result) k) before
      ∙ sym (list_any_more (λ x. int_eq x k) c.args.clause.now c.loop-lit.lit-index c.lit-item.result c.loop-lit-test.true))));
  variables = c.falsify.ensures.same ∙ c.loop-lit.invariant.variables;
}
