use Rattle.std.proofs.Common.{◌≡◌, ◌-◌, ◌++◌, length, replicate}
use Rattle.bit_words.proofs.words.BitInt.extended.Given as goal

abbrev pub invariant-more : goal.invariant-more
invariant-more l = l.bits.items ≡ l.self ++ replicate (l.counter - length l.self) l.sign
