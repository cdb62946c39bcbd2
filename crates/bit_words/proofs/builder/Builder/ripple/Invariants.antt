use Rattle.std.proofs.Common.{◌≡◌, ◌*◌, ◌∷◌, length, drop}
use Rattle.bit_words.specs.Builds.{Built}
use Rattle.bit_words.proofs.Adding.{Summing}
use Rattle.bit_words.proofs.builder.Builder.ripple.Given as goal

abbrev pub invariant-bits : goal.invariant-bits
invariant-bits l = record {
  built : Built l.fn.self l.self (3 * l.i) (l.carried ∷ l.bits.items) (Summing l.a l.b l.fn.carry (drop l.i l.a) (drop l.i l.b) l.carried l.bits.items);
  length : length l.bits.items ≡ l.i;
}
