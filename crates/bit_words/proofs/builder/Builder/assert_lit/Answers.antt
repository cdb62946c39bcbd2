use Rattle.bit_words.proofs.Asserted.{asserted}
use Rattle.bit_words.proofs.builder.Builder.assert_lit.Goals as goal

pub returns-clause-exact : goal.returns-clause-exact
returns-clause-exact c = λ v. asserted v _ _ _ c.in_ok-single.ensures.clauses
