use Rattle.std.proofs.Common.{◌-◌, slice_index, refl, sym, arith}
use Rattle.path_core.proofs.Spelling.{found_at}
use Rattle.path_core.proofs.texts.next_same.Goals as goal

pub returns-in-Some : goal.returns-in-Some
returns-in-Some c =
    rw c.in_ok-next.ensures (sym (found_at c.args.alphabet.now c.args.text.now (c.loop-at.at - 1) c.loop-at.at 0 (slice_index c.args.text.now (c.loop-at.at - 1)) c.in-Some.unit (omega arith) (omega arith) c.loop-at.invariant.none refl c.in-Some.ensures))
