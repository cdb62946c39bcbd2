use Rattle.std.proofs.Common.{arith, ◌-◌}
use Rattle.path_core.proofs.Counting.{counted_more}
use Rattle.path_core.proofs.texts.texts_count.Goals as goal

pub loop-from-preserved : goal.loop-from-preserved
loop-from-preserved c = record {
  begun = omega arith;
  ended = omega arith;
  counted = counted_more c.args.alphabet.now c.loop-from.from (c.loop-from.from - 1) c.args.most c.loop-from.total c.saturating_pow.result c.saturating_add-total.result (omega arith) (omega arith) c.loop-from.invariant.counted c.saturating_pow.ensures c.saturating_add-total.ensures;
}
