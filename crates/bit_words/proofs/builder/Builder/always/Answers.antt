use Rattle.std.proofs.Common.{not, ap, ◌∙◌, arith}
use Rattle.bit_words.proofs.Composed.{built_as, named_one, name_of}
use Rattle.bit_words.proofs.Opposites.{opposite_value, opposite_names}
use Rattle.cnf_core.specs.Literals.{lit_true}
use Rattle.bit_words.proofs.builder.Builder.always.Goals as goal

pub returns-clause-gate : goal.returns-clause-gate
returns-clause-gate c =
    let g = c.in_ok-never.ensures.gate in
    let e = c.opposite.ensures in
    built_as g (omega arith) (rw e (named_one _ _ (opposite_names _ _ (name_of g))))
    (λ v h. ap (lit_true v) e ∙ opposite_value _ _ v (name_of g) ∙ ap not h)
