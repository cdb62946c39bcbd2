use Rattle.std.proofs.Common.{arith, [], ◌∷◌}
use Rattle.bit_words.proofs.Lists.{padded_names}
use Rattle.bit_words.proofs.Composed.{named_one}
use Rattle.bit_words.proofs.Rows.{masked_word}
use Rattle.bit_words.proofs.builder.Builder.masked.Goals as goal

pub gate_words-requires-clause-b : goal.gate_words-requires-clause-b
gate_words-requires-clause-b c = rw c.in_ok-mask.ensures.bits (padded_names _ _ (c.args.keep ∷ []) (named_one _ c.args.keep c.requires.keep))

pub returns-clause-word : goal.returns-clause-word
returns-clause-word c = masked_word _ _ _ _ c.width.result c.args.a.now _ _ c.args.keep c.requires.some c.width.ensures.width
    c.in_ok-mask.ensures.bits c.in_ok-kept.ensures.bits (omega arith) c.in_ok-kept.ensures.width
