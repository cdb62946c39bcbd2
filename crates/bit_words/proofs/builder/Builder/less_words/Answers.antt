use Rattle.std.proofs.Common.{arith}
use Rattle.bit_words.proofs.Lists.{padded_names}
use Rattle.bit_words.proofs.Less.{less_gate}
use Rattle.bit_words.proofs.builder.Builder.less_words.Goals as goal

pub is_less-requires-clause-a : goal.is_less-requires-clause-a
is_less-requires-clause-a c = rw c.in_ok-left.ensures.bits (padded_names _ _ c.args.a.now c.requires.a)

pub is_less-requires-clause-b : goal.is_less-requires-clause-b
is_less-requires-clause-b c = rw c.in_ok-right.ensures.bits (padded_names _ _ c.args.b.now c.requires.b)

pub returns-clause-gate : goal.returns-clause-gate
returns-clause-gate c = less_gate _ _ _ _ c.max-width.result c.args.a.now c.args.b.now _ _ _ c.requires.some_a c.requires.some_b (omega arith) (omega arith)
    c.in_ok-left.ensures.bits c.in_ok-right.ensures.bits c.in_ok-less.ensures.gate (omega (arith, c.in_ok-left.ensures.width))
