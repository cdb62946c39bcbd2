use Rattle.std.proofs.Common.{◌≡◌, ◌*◌, ◌+◌, ◌-◌, [], length, drop, false, All, pos, ◌<ℤ◌}
use Rattle.cnf_core.specs.Literals.{Names, lit_true}
use Rattle.bit_words.specs.Builds.{Built}
use Rattle.bit_words.specs.Words.{bits, word_value}
use Rattle.bit_words.specs.LongDivision.{IsQuotient, above}
use Rattle.bit_words.proofs.builder.Builder.divide_bits.Given as goal

abbrev pub invariant-steps : goal.invariant-steps
invariant-steps l = record {
  built : Built l.fn.self l.self (l.i * (4 * length l.divisor + 8)) [] (λ v. lit_true v l.never ≡ false → pos 0 <ℤ word_value v l.divisor
      → IsQuotient (above (bits v (drop (l.count - l.i) l.low)) (pos 0)) (word_value v l.divisor) (above (bits v l.bits.items) (pos 0)) (word_value v l.rest));
  bits : All (Names l.self.variables) l.bits.items;
  rest : All (Names l.self.variables) l.rest;
  width : length l.rest ≡ length l.divisor;
  length : length l.bits.items ≡ l.i;
}
