use Rattle.std.proofs.Common.{arith, rules, w64, SFits}
use Rattle.std.proofs.lemmas.Int.{ints}
use Rattle.path_core.proofs.Counting.{length-values}
use Rattle.path_core.proofs.inputs.numbers_count.Goals as goal

pub overflow_cast-result : goal.overflow_cast-result
overflow_cast-result c =
    let h = c.requires in
    let low_fits : SFits w64 c.args.low = search rules in
    let high_fits : SFits w64 c.args.high = search rules in
    (omega (arith, ints), omega (arith, ints))

pub returns : goal.returns
returns c =
    let h = c.requires in
    let low_fits : SFits w64 c.args.low = search rules in
    let high_fits : SFits w64 c.args.high = search rules in
    let count = length-values c.args.low c.args.high h in
    omega (arith, ints)
