use Rattle.std.proofs.Common.{Bool, ◌≡◌, ◌∙◌, ap, arith, refl, not, true, false, ◌||◌, ◌&&◌}
use Rattle.cnf_core.specs.Literals.{lit_true}
use Rattle.bit_words.proofs.Composed.{built_as, named_one, name_of}
use Rattle.bit_words.proofs.Opposites.{opposite_names, opposite_value}
use Rattle.bit_words.proofs.builder.Builder.gate_or.Goals as goal

de_morgan : (a b : Bool) → not (not a && not b) ≡ (a || b)
de_morgan true b = refl
de_morgan false true = refl
de_morgan false false = refl

pub gate_and-requires-clause-a : goal.gate_and-requires-clause-a
gate_and-requires-clause-a c = rw c.opposite.ensures (opposite_names _ c.args.a c.requires.a)

pub gate_and-requires-clause-b : goal.gate_and-requires-clause-b
gate_and-requires-clause-b c = rw c.opposite-2.ensures (opposite_names _ c.args.b c.requires.b)

pub returns-clause-gate : goal.returns-clause-gate
returns-clause-gate c =
    let g = c.in_ok-neither.ensures.gate in
    built_as g (omega arith) (rw c.opposite-3.ensures (named_one _ _ (opposite_names _ c.in_ok-neither.neither (name_of g))))
    (λ v h. ap (lit_true v) c.opposite-3.ensures ∙ opposite_value _ c.in_ok-neither.neither v (name_of g)
    ∙ ap not (h ∙ ap (λ x. x && lit_true v c.opposite-2.result) (ap (lit_true v) c.opposite.ensures ∙ opposite_value _ c.args.a v c.requires.a)
    ∙ ap (λ y. not (lit_true v c.args.a) && y) (ap (lit_true v) c.opposite-2.ensures ∙ opposite_value _ c.args.b v c.requires.b))
    ∙ de_morgan (lit_true v c.args.a) (lit_true v c.args.b))
