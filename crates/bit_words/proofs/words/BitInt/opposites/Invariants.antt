use Rattle.std.proofs.Common.{◌≡◌, map, take, neg_ℤ}
use Rattle.bit_words.proofs.words.BitInt.opposites.Given as goal

abbrev pub invariant-bits : goal.invariant-bits
invariant-bits l = l.bits.items ≡ map neg_ℤ (take l.i l.self)
