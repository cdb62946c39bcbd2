use Rattle.std.proofs.Common.{arith}
use Rattle.bit_words.specs.Words.{word_value}
use Rattle.bit_words.proofs.Lists.{name_at}
use Rattle.bit_words.proofs.Composed.{built_both, built_then}
use Rattle.int_encoder.proofs.Shifting.{halved_five}
use Rattle.int_encoder.proofs.shifts.shift_down.Goals as goal

pub halved_where-requires-2-clause-a : goal.halved_where-requires-2-clause-a
halved_where-requires-2-clause-a c = c.in_ok-one.ensures.word.built.names

pub halved_where-requires-2-clause-when : goal.halved_where-requires-2-clause-when
halved_where-requires-2-clause-when c = name_at _ _ c.args.count.now 1 c.bit-2.result c.requires.count (omega (arith, c.requires.enough)) c.bit-2.ensures (omega (arith, c.in_ok-one.ensures.word.built.variables))

pub halved_where-requires-3-clause-a : goal.halved_where-requires-3-clause-a
halved_where-requires-3-clause-a c = c.in_ok-two.ensures.word.built.names

pub halved_where-requires-3-clause-when : goal.halved_where-requires-3-clause-when
halved_where-requires-3-clause-when c = name_at _ _ c.args.count.now 2 c.bit-3.result c.requires.count (omega (arith, c.requires.enough)) c.bit-3.ensures (omega (arith, c.in_ok-one.ensures.word.built.variables, c.in_ok-two.ensures.word.built.variables))

pub halved_where-requires-4-clause-a : goal.halved_where-requires-4-clause-a
halved_where-requires-4-clause-a c = c.in_ok-three.ensures.word.built.names

pub halved_where-requires-4-clause-when : goal.halved_where-requires-4-clause-when
halved_where-requires-4-clause-when c = name_at _ _ c.args.count.now 3 c.bit-4.result c.requires.count (omega (arith, c.requires.enough)) c.bit-4.ensures (omega (arith, c.in_ok-one.ensures.word.built.variables, c.in_ok-two.ensures.word.built.variables, c.in_ok-three.ensures.word.built.variables))

pub halved_where-requires-5-clause-a : goal.halved_where-requires-5-clause-a
halved_where-requires-5-clause-a c = c.in_ok-four.ensures.word.built.names

pub halved_where-requires-5-clause-when : goal.halved_where-requires-5-clause-when
halved_where-requires-5-clause-when c = name_at _ _ c.args.count.now 4 c.bit-5.result c.requires.count (omega (arith, c.requires.enough)) c.bit-5.ensures (omega (arith, c.in_ok-one.ensures.word.built.variables, c.in_ok-two.ensures.word.built.variables, c.in_ok-three.ensures.word.built.variables, c.in_ok-four.ensures.word.built.variables))

pub halved_where-requires-clause-when : goal.halved_where-requires-clause-when
halved_where-requires-clause-when c = name_at _ _ c.args.count.now 0 c.bit.result c.requires.count (omega (arith, c.requires.enough)) c.bit.ensures (omega arith)

pub returns-clause-word : goal.returns-clause-word
returns-clause-word c =
    let g1 = c.in_ok-one.ensures.word.built in
    let g2 = c.in_ok-two.ensures.word.built in
    let g3 = c.in_ok-three.ensures.word.built in
    let g4 = c.in_ok-four.ensures.word.built in
    let g5 = c.in_ok-five.ensures.word.built in
    record {
      some = c.in_ok-five.ensures.word.some;
      built = built_both (built_then (built_then (built_then g1 g2) g3) g4) g5
          (omega (arith, c.in_ok-one.ensures.width, c.in_ok-two.ensures.width, c.in_ok-three.ensures.width, c.in_ok-four.ensures.width)) g5.names
          (λ v p q. halved_five v c.args.count.now (word_value v c.args.a.now) (word_value v c.in_ok-one.one) (word_value v c.in_ok-two.two) (word_value v c.in_ok-three.three) (word_value v c.in_ok-four.four) (word_value v c.in_ok-five.five)
          c.bit.result c.bit-2.result c.bit-3.result c.bit-4.result c.bit-5.result c.requires.enough c.bit.ensures c.bit-2.ensures c.bit-3.ensures c.bit-4.ensures c.bit-5.ensures
          p.0.0.0 p.0.0.1 p.0.1 p.1 q);
    }
