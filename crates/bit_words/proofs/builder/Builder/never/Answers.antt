use Rattle.std.proofs.Common.{arith}
use Rattle.bit_words.proofs.Tables.{never_gate}
use Rattle.bit_words.proofs.builder.Builder.never.Goals as goal

pub returns-clause-gate : goal.returns-clause-gate
returns-clause-gate c = never_gate c.args.self.now c.single.new.self c.new_bit-lit.result (omega arith) (cc)
    (let e = c.in_ok-single.ensures.clauses in rw (c.new_bit-lit.ensures.clauses, c.opposite.ensures) at e)
