use Rattle.std.proofs.Common.{ℤ, List, sym, arith, subst, All}
use Rattle.cnf_core.specs.Literals.{Names}
use Rattle.bit_words.proofs.Lists.{name_at}
use Rattle.bit_words.proofs.Composed.{built_both, built_then, name_of}
use Rattle.bit_words.proofs.Within.{names_later, all_later}
use Rattle.int_encoder.proofs.Lowest.{low_names}
use Rattle.int_encoder.proofs.Shifting.{left_value}
use Rattle.int_encoder.proofs.shifts.shift_left.Goals as goal

pub raised_where-requires-clause-a : goal.raised_where-requires-clause-a
raised_where-requires-clause-a c =
    let n = c.never.new.self.variables in
    let P : List ℤ → Type 0 = λ l. All (Names n) l in
    subst P (sym c.in_ok-low.ensures.bits) (low_names n c.args.a.now (all_later _ n c.args.a.now c.requires.a c.in_ok-never.ensures.gate.variables))

pub raised_where-requires-clause-when : goal.raised_where-requires-clause-when
raised_where-requires-clause-when c =
    let h = subst (λ l. All (Names c.args.builder.now.variables) l) (sym c.in_ok-count.ensures.bits) (low_names c.args.builder.now.variables c.args.b.now c.requires.b) in
    name_at _ _ c.in_ok-count.count 0 c.bit.result h (omega (arith, c.in_ok-count.ensures.width)) c.bit.ensures (omega (arith, c.in_ok-never.ensures.gate.variables))

pub raised_where-requires-clause-never : goal.raised_where-requires-clause-never
raised_where-requires-clause-never c = names_later _ _ c.in_ok-never.never (name_of c.in_ok-never.ensures.gate) (omega (arith, c.in_ok-never.ensures.gate.variables))

pub raised_where-requires-2-clause-a : goal.raised_where-requires-2-clause-a
raised_where-requires-2-clause-a c = c.in_ok-one.ensures.word.names

pub raised_where-requires-2-clause-when : goal.raised_where-requires-2-clause-when
raised_where-requires-2-clause-when c =
    let h = subst (λ l. All (Names c.args.builder.now.variables) l) (sym c.in_ok-count.ensures.bits) (low_names c.args.builder.now.variables c.args.b.now c.requires.b) in
    name_at _ _ c.in_ok-count.count 1 c.bit-2.result h (omega (arith, c.in_ok-count.ensures.width)) c.bit-2.ensures (omega (arith, c.in_ok-never.ensures.gate.variables, c.in_ok-one.ensures.word.variables))

pub raised_where-requires-2-clause-never : goal.raised_where-requires-2-clause-never
raised_where-requires-2-clause-never c = names_later _ _ c.in_ok-never.never (name_of c.in_ok-never.ensures.gate) (omega (arith, c.in_ok-never.ensures.gate.variables, c.in_ok-one.ensures.word.variables))

pub raised_where-requires-3-clause-a : goal.raised_where-requires-3-clause-a
raised_where-requires-3-clause-a c = c.in_ok-two.ensures.word.names

pub raised_where-requires-3-clause-when : goal.raised_where-requires-3-clause-when
raised_where-requires-3-clause-when c =
    let h = subst (λ l. All (Names c.args.builder.now.variables) l) (sym c.in_ok-count.ensures.bits) (low_names c.args.builder.now.variables c.args.b.now c.requires.b) in
    name_at _ _ c.in_ok-count.count 2 c.bit-3.result h (omega (arith, c.in_ok-count.ensures.width)) c.bit-3.ensures (omega (arith, c.in_ok-never.ensures.gate.variables, c.in_ok-one.ensures.word.variables, c.in_ok-two.ensures.word.variables))

pub raised_where-requires-3-clause-never : goal.raised_where-requires-3-clause-never
raised_where-requires-3-clause-never c = names_later _ _ c.in_ok-never.never (name_of c.in_ok-never.ensures.gate) (omega (arith, c.in_ok-never.ensures.gate.variables, c.in_ok-one.ensures.word.variables, c.in_ok-two.ensures.word.variables))

pub raised_where-requires-4-clause-a : goal.raised_where-requires-4-clause-a
raised_where-requires-4-clause-a c = c.in_ok-three.ensures.word.names

pub raised_where-requires-4-clause-when : goal.raised_where-requires-4-clause-when
raised_where-requires-4-clause-when c =
    let h = subst (λ l. All (Names c.args.builder.now.variables) l) (sym c.in_ok-count.ensures.bits) (low_names c.args.builder.now.variables c.args.b.now c.requires.b) in
    name_at _ _ c.in_ok-count.count 3 c.bit-4.result h (omega (arith, c.in_ok-count.ensures.width)) c.bit-4.ensures (omega (arith, c.in_ok-never.ensures.gate.variables, c.in_ok-one.ensures.word.variables, c.in_ok-two.ensures.word.variables, c.in_ok-three.ensures.word.variables))

pub raised_where-requires-4-clause-never : goal.raised_where-requires-4-clause-never
raised_where-requires-4-clause-never c = names_later _ _ c.in_ok-never.never (name_of c.in_ok-never.ensures.gate) (omega (arith, c.in_ok-never.ensures.gate.variables, c.in_ok-one.ensures.word.variables, c.in_ok-two.ensures.word.variables, c.in_ok-three.ensures.word.variables))

pub raised_where-requires-5-clause-a : goal.raised_where-requires-5-clause-a
raised_where-requires-5-clause-a c = c.in_ok-four.ensures.word.names

pub raised_where-requires-5-clause-when : goal.raised_where-requires-5-clause-when
raised_where-requires-5-clause-when c =
    let h = subst (λ l. All (Names c.args.builder.now.variables) l) (sym c.in_ok-count.ensures.bits) (low_names c.args.builder.now.variables c.args.b.now c.requires.b) in
    name_at _ _ c.in_ok-count.count 4 c.bit-5.result h (omega (arith, c.in_ok-count.ensures.width)) c.bit-5.ensures (omega (arith, c.in_ok-never.ensures.gate.variables, c.in_ok-one.ensures.word.variables, c.in_ok-two.ensures.word.variables, c.in_ok-three.ensures.word.variables, c.in_ok-four.ensures.word.variables))

pub raised_where-requires-5-clause-never : goal.raised_where-requires-5-clause-never
raised_where-requires-5-clause-never c = names_later _ _ c.in_ok-never.never (name_of c.in_ok-never.ensures.gate) (omega (arith, c.in_ok-never.ensures.gate.variables, c.in_ok-one.ensures.word.variables, c.in_ok-two.ensures.word.variables, c.in_ok-three.ensures.word.variables, c.in_ok-four.ensures.word.variables))

pub returns-clause-word : goal.returns-clause-word
returns-clause-word c =
    let g0 = c.in_ok-never.ensures.gate in
    let g1 = c.in_ok-one.ensures.word in
    let g2 = c.in_ok-two.ensures.word in
    let g3 = c.in_ok-three.ensures.word in
    let g4 = c.in_ok-four.ensures.word in
    let g5 = c.in_ok-five.ensures.word in
    record {
      some = omega (arith, c.in_ok-five.ensures.width);
      built = built_both (built_then (built_then (built_then (built_then g0 g1) g2) g3) g4) g5 (omega arith) g5.names
          (λ v p q. left_value v c.args.a.now c.args.b.now c.in_ok-low.low c.in_ok-count.count c.in_ok-one.one c.in_ok-two.two c.in_ok-three.three c.in_ok-four.four c.in_ok-five.five
          c.bit.result c.bit-2.result c.bit-3.result c.bit-4.result c.bit-5.result c.in_ok-never.never c.requires.some_a c.requires.some_b c.in_ok-low.ensures.bits c.in_ok-count.ensures.bits
          c.bit.ensures c.bit-2.ensures c.bit-3.ensures c.bit-4.ensures c.bit-5.ensures
          c.in_ok-low.ensures.width c.in_ok-one.ensures.width c.in_ok-two.ensures.width c.in_ok-three.ensures.width c.in_ok-four.ensures.width c.in_ok-five.ensures.width
          p.0.0.0.0 p.0.0.0.1 p.0.0.1 p.0.1 p.1 q);
    }
