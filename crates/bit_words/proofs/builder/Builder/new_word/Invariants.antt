use Rattle.std.proofs.Common.{◌≡◌, ◌+◌, length, All}
use Rattle.cnf_core.specs.Literals.{Names}
use Rattle.bit_words.proofs.builder.Builder.new_word.Given as goal

abbrev pub invariant-bits : goal.invariant-bits
invariant-bits l = record {
  clauses : l.self.clauses ≡ l.fn.self.clauses;
  variables : l.self.variables ≡ l.fn.self.variables + l.counter;
  names : All (Names l.self.variables) l.bits.items;
  length : length l.bits.items ≡ l.counter;
}
