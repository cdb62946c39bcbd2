use Rattle.std.proofs.Common.{◌≡◌, ap, sym, arith, length, ◌-◌, ◌+◌, ◌*◌}
use Rattle.bit_words.proofs.Lists.{take_names}
use Rattle.bit_words.proofs.Dividing.{long_all}
use Rattle.bit_words.proofs.builder.Builder.long_divide.Goals as goal

pub divide_bits-requires-clause-space : goal.divide_bits-requires-clause-space
divide_bits-requires-clause-space c =
    let e : length c.in_ok-low.low ≡ length c.args.top.now - 1 = omega (arith, c.in_ok-low.ensures.width) in
    omega (arith, c.requires.space, ap (λ n. n * (4 * length c.args.divisor.now + 8)) e)

pub divide_bits-requires-clause-low : goal.divide_bits-requires-clause-low
divide_bits-requires-clause-low c = rw c.in_ok-low.ensures.bits (take_names _ _ c.args.top.now c.requires.top)

pub returns-clause-quotient_width : goal.returns-clause-quotient_width
returns-clause-quotient_width c = omega (arith, c.in_ok-pair.ensures.divided.quotient_width, c.in_ok-low.ensures.width, c.requires.more)

pub returns-clause-rest_width : goal.returns-clause-rest_width
returns-clause-rest_width c = c.in_ok-pair.ensures.divided.left_width

pub returns-clause-quotient_names : goal.returns-clause-quotient_names
returns-clause-quotient_names c = c.in_ok-pair.ensures.divided.quotient_names

pub returns-clause-rest_names : goal.returns-clause-rest_names
returns-clause-rest_names c = c.in_ok-pair.ensures.divided.left_names

pub returns-clause-divided : goal.returns-clause-divided
returns-clause-divided c =
    let e : length c.in_ok-low.low ≡ length c.args.top.now - 1 = omega (arith, c.in_ok-low.ensures.width) in
    long_all _ _ _ (c.width.result - 1) c.args.top.now c.in_ok-low.low c.args.divisor.now c.in_ok-pair.pair.0 c.in_ok-pair.pair.1 c.args.never c.in_ok-pair.ensures.divided
    c.in_ok-low.ensures.bits (omega (arith, c.requires.more)) (ap (λ n. n * (4 * length c.args.divisor.now + 8)) (sym e))
