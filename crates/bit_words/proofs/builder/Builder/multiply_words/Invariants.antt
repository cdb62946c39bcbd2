use Rattle.std.proofs.Common.{◌≡◌, ◌*◌, ◌+◌, [], length, drop, false, All}
use Rattle.cnf_core.specs.Literals.{Names, lit_true}
use Rattle.bit_words.specs.Builds.{Built}
use Rattle.bit_words.proofs.Rows.{Rowing}
use Rattle.bit_words.proofs.builder.Builder.multiply_words.Given as goal

abbrev pub invariant-rows : goal.invariant-rows
invariant-rows l = record {
  built : Built l.fn.self l.self (1 + l.i * (4 * length l.a + 3)) [] (λ v. (lit_true v l.never ≡ false) × Rowing l.a l.b l.bits.items l.rows (drop l.i l.b) v);
  never : Names l.self.variables l.never;
  rows : All (Names l.self.variables) l.rows;
  bits : All (Names l.self.variables) l.bits.items;
  width : length l.rows ≡ length l.a;
  length : length l.bits.items ≡ l.i;
}
