use Rattle.std.proofs.Common.{arith, [], ◌∷◌}
use Rattle.bit_words.proofs.Lists.{padded_names}
use Rattle.bit_words.proofs.Composed.{built_both, named_one}
use Rattle.bit_words.proofs.Dividing.{negated_word}
use Rattle.bit_words.proofs.builder.Builder.negated_where.Goals as goal

pub subtract_from-requires-clause-a : goal.subtract_from-requires-clause-a
subtract_from-requires-clause-a c = rw c.in_ok-zero.ensures.bits (padded_names _ 0 (c.args.never ∷ []) (named_one _ c.args.never c.requires.never))

pub returns-clause-word : goal.returns-clause-word
returns-clause-word c =
    let g = c.in_ok-negative.ensures.word.built in
    let h = c.in_ok-chosen.ensures.word.built in
    built_both g h (omega (arith, c.in_ok-zero.ensures.width, c.in_ok-negative.ensures.width, c.requires.some)) h.names
    (λ v p q n. negated_word v c.args.c c.args.never 0 c.in_ok-zero.zero c.in_ok-negative.negative c.args.a.now c.in_ok-chosen.chosen c.in_ok-zero.ensures.bits n p q)
