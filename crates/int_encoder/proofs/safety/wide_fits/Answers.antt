use Rattle.std.proofs.Common.{arith}
use Rattle.bit_words.proofs.Lists.{take_names}
use Rattle.bit_words.proofs.Composed.{built_both, built_then}
use Rattle.int_encoder.proofs.Safe.{fits_word}
use Rattle.int_encoder.proofs.safety.wide_fits.Goals as goal

pub equal_words-requires-clause-b : goal.equal_words-requires-clause-b
equal_words-requires-clause-b c = rw c.in_ok-low.ensures.bits (take_names _ 54 c.args.a.now c.requires.a)

pub equal_words-requires-2-clause-b : goal.equal_words-requires-2-clause-b
equal_words-requires-2-clause-b c = rw c.in_ok-low_negative.ensures.bits (take_names _ 54 c.in_ok-negative.negative c.in_ok-negative.ensures.word.built.names)

pub returns-clause-gate : goal.returns-clause-gate
returns-clause-gate c =
    let g0 = c.in_ok-same.ensures.gate in
    let g1 = c.in_ok-never.ensures.gate in
    let g2 = c.in_ok-negative.ensures.word.built in
    let g3 = c.in_ok-same_negative.ensures.gate in
    let g4 = c.in_ok-both.ensures.gate in
    built_both (built_then (built_then (built_then g0 g1) g2) g3) g4
    (omega (arith, c.in_ok-low.ensures.width, c.in_ok-zero.ensures.width, c.in_ok-negative.ensures.width, c.in_ok-low_negative.ensures.width, c.requires.wide)) g4.names
    (λ v p q. fits_word v c.args.a.now c.in_ok-low.low c.in_ok-zero.zero c.in_ok-negative.negative c.in_ok-low_negative.low_negative c.in_ok-same.same c.in_ok-same_negative.same_negative c.in_ok-both.both c.in_ok-never.never
    c.in_ok-zero.ensures.bits p.0.0.1 p.0.0.0 p.0.1 p.1 q
    (c.in_ok-low.ensures.value v) (c.in_ok-low.ensures.range v) (c.in_ok-low_negative.ensures.value v) (c.in_ok-low_negative.ensures.range v))
