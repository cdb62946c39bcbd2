use Rattle.std.proofs.Common.{arith}
use Rattle.bit_words.proofs.Lists.{padded_names}
use Rattle.bit_words.proofs.Zipped.{choice_word}
use Rattle.bit_words.proofs.builder.Builder.choose_words.Goals as goal

pub gate_words-requires-clause-a : goal.gate_words-requires-clause-a
gate_words-requires-clause-a c = rw c.in_ok-left.ensures.bits (padded_names _ _ c.args.a.now c.requires.a)

pub gate_words-requires-clause-b : goal.gate_words-requires-clause-b
gate_words-requires-clause-b c = rw c.in_ok-right.ensures.bits (padded_names _ _ c.args.b.now c.requires.b)

pub returns-clause-word : goal.returns-clause-word
returns-clause-word c = choice_word _ _ _ _ c.max-width.result c.args.c c.args.a.now c.args.b.now _ _ _ c.requires.some_a c.requires.some_b (omega arith) (omega arith)
    c.in_ok-left.ensures.bits c.in_ok-right.ensures.bits c.in_ok-chosen.ensures.bits (omega (arith, c.in_ok-left.ensures.width)) c.in_ok-chosen.ensures.width
