use Rattle.std.proofs.Common.{arith}
use Rattle.bit_words.proofs.Tables.{pushed_three, and_gate}
use Rattle.bit_words.proofs.builder.Builder.gate_and.Goals as goal

pub returns-clause-gate : goal.returns-clause-gate
returns-clause-gate c = and_gate c.args.self.now c.triple.new.self c.new_bit-lit.result (omega arith) (cc) c.args.a c.args.b c.requires.a c.requires.b
    (let e = pushed_three _ _ _ _ _ _ _ c.in_ok-pair.ensures.clauses c.in_ok-pair-2.ensures.clauses c.in_ok-triple.ensures.clauses in rw (c.new_bit-lit.ensures.clauses, c.opposite-not_lit.ensures, c.opposite.ensures, c.opposite-2.ensures) at e)
