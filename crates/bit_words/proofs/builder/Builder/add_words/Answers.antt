use Rattle.std.proofs.Common.{arith, ◌+ℤ◌}
use Rattle.bit_words.specs.Words.{word_value}
use Rattle.bit_words.proofs.Adding.{never_carried}
use Rattle.bit_words.proofs.builder.Builder.add_words.Goals as goal

pub returns-clause-word : goal.returns-clause-word
returns-clause-word c = never_carried _ _ _ _ _ _ _ (λ v. word_value v c.args.a.now +ℤ word_value v c.args.b.now) c.in_ok-never.ensures.gate c.in_ok-sum.ensures.word (omega arith)
