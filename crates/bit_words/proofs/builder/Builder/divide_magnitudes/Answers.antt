use Rattle.std.proofs.Common.{◌≡◌, ◌∙◌, ap, arith, length, ◌-◌, ◌+◌, ◌*◌}
use Rattle.bit_words.proofs.Composed.{built_both, named_none}
use Rattle.bit_words.proofs.Composed.{built_then}
use Rattle.bit_words.proofs.Dividing.{magnitudes}
use Rattle.bit_words.proofs.builder.Builder.divide_magnitudes.Goals as goal

pub returns-clause-divided : goal.returns-clause-divided
returns-clause-divided c =
    let a = c.args.a.now in
    let b = c.args.b.now in
    let g = c.in_ok-top.ensures.word in
    let h = c.in_ok-divisor.ensures.word in
    let k = c.in_ok-pair.ensures.divided in
    let e1 : length c.in_ok-top.top - 1 ≡ length a = omega (arith, c.in_ok-top.ensures.width) in
    let e2 : 4 * length c.in_ok-divisor.divisor + 8 ≡ 4 * length b + 12 = omega (arith, c.in_ok-divisor.ensures.width) in
    let e = ap (λ n. n * (4 * length c.in_ok-divisor.divisor + 8)) e1 ∙ ap (λ n. length a * n) e2 in
    built_both (built_then g h) k (omega (arith, e, c.in_ok-top.ensures.width, c.in_ok-divisor.ensures.width)) (named_none _)
    (λ v p q n some. magnitudes v a b c.in_ok-top.top c.in_ok-divisor.divisor c.in_ok-pair.pair.0 c.in_ok-pair.pair.1 c.sign.result c.sign-2.result
    c.requires.some_a c.requires.some_b c.sign.ensures c.sign-2.ensures (p.0 n) (p.1 n) (q n) some)
