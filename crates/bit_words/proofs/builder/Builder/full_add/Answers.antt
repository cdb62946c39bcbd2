use Rattle.std.proofs.Common.{◌∙◌, ap, arith, if◌then◌else◌, [], ◌∷◌}
use Rattle.cnf_core.specs.Literals.{lit_true}
use Rattle.bit_words.specs.Builds.{differ}
use Rattle.bit_words.proofs.Composed.{built_both, built_then, named_more, name_of}
use Rattle.bit_words.proofs.Within.{names_later}
use Rattle.bit_words.proofs.builder.Builder.full_add.Goals as goal

pub returns-clause-sum : goal.returns-clause-sum
returns-clause-sum c =
    let g1 = c.in_ok-either.ensures.gate in
    let g2 = c.in_ok-sum.ensures.gate in
    let g3 = c.in_ok-carry.ensures.gate in
    built_both (built_then g1 g2) g3 (omega arith)
    (named_more _ c.in_ok-sum.sum (c.in_ok-carry.carry ∷ []) (names_later _ _ c.in_ok-sum.sum (name_of g2) g3.variables) g3.names)
    (λ v p q. (p.1 ∙ ap (λ x. differ x (lit_true v c.args.c)) p.0, q ∙ ap (λ x. if x then lit_true v c.args.c else lit_true v c.args.a) p.0))
