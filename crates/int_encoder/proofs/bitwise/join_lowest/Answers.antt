use Rattle.std.proofs.Common.{arith}
use Rattle.bit_words.specs.Joins.{gate_value}
use Rattle.int_encoder.proofs.Lowest.{low_names, joined_lowest}
use Rattle.int_encoder.proofs.bitwise.join_lowest.Goals as goal

pub gate_words-requires-clause-a : goal.gate_words-requires-clause-a
gate_words-requires-clause-a c = rw c.in_ok-left.ensures.bits (low_names _ c.args.a.now c.requires.a)

pub gate_words-requires-clause-b : goal.gate_words-requires-clause-b
gate_words-requires-clause-b c = rw c.in_ok-right.ensures.bits (low_names _ c.args.b.now c.requires.b)

pub returns-clause-bits : goal.returns-clause-bits
returns-clause-bits c = joined_lowest _ _ _ (λ v. gate_value v c.args.gate.now) c.args.a.now c.args.b.now _ _ _ c.in_ok-left.ensures.bits c.in_ok-right.ensures.bits
    (omega (arith, c.in_ok-left.ensures.width)) c.in_ok-joined.ensures.bits
