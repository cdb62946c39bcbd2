use Rattle.std.proofs.Common.{◌≡◌, length, drop}
use Rattle.bit_words.specs.Builds.{Built}
use Rattle.bit_words.specs.Joins.{gate_value}
use Rattle.bit_words.proofs.Zipped.{Zipping}
use Rattle.bit_words.proofs.builder.Builder.gate_words.Given as goal

abbrev pub invariant-bits : goal.invariant-bits
invariant-bits l = record {
  built : Built l.fn.self l.self l.i l.bits.items (Zipping (λ v. gate_value v l.gate) l.a l.b (drop l.i l.a) (drop l.i l.b) l.bits.items);
  length : length l.bits.items ≡ l.i;
}
