use Rattle.std.proofs.Common.{arith}
use Rattle.bit_words.proofs.Composed.{built_as}
use Rattle.int_encoder.proofs.Lowest.{low_names}
use Rattle.int_encoder.proofs.Shifting.{right_value}
use Rattle.int_encoder.proofs.shifts.shift_right.Goals as goal

pub shift_down-requires-clause-a : goal.shift_down-requires-clause-a
shift_down-requires-clause-a c = rw c.in_ok-low.ensures.bits (low_names _ c.args.a.now c.requires.a)

pub shift_down-requires-clause-count : goal.shift_down-requires-clause-count
shift_down-requires-clause-count c = rw c.in_ok-count.ensures.bits (low_names _ c.args.b.now c.requires.b)

pub returns-clause-word : goal.returns-clause-word
returns-clause-word c =
    let g = c.in_ok-word.ensures.word in
    record {
      some = g.some;
      built = built_as g.built (omega (arith, c.in_ok-low.ensures.width)) g.built.names
          (λ v p. right_value v c.args.a.now c.args.b.now c.in_ok-word.word c.requires.some_a c.requires.some_b (rw (c.in_ok-low.ensures.bits, c.in_ok-count.ensures.bits) at p));
    }
