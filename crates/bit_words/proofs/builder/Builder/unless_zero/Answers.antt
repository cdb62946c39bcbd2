use Rattle.std.proofs.Common.{arith, [], ◌∷◌}
use Rattle.bit_words.proofs.Lists.{padded_names}
use Rattle.bit_words.proofs.Composed.{built_both, named_one}
use Rattle.bit_words.proofs.Dividing.{unless_word}
use Rattle.bit_words.proofs.builder.Builder.unless_zero.Goals as goal

pub equal_words-requires-clause-b : goal.equal_words-requires-clause-b
equal_words-requires-clause-b c = rw c.in_ok-zero.ensures.bits (padded_names _ 0 (c.args.never ∷ []) (named_one _ c.args.never c.requires.never))

pub returns-clause-word : goal.returns-clause-word
returns-clause-word c =
    let g = c.in_ok-is_zero.ensures.gate in
    let h = c.in_ok-chosen.ensures.word.built in
    built_both g h (omega (arith, c.in_ok-zero.ensures.width, c.requires.some, c.requires.some_divisor)) h.names
    (λ v p q n. unless_word v c.in_ok-is_zero.is_zero c.args.never 0 c.in_ok-zero.zero c.args.divisor.now c.args.a.now c.in_ok-chosen.chosen c.in_ok-zero.ensures.bits n p q)
