use Rattle.std.proofs.Common.{arith}
use Rattle.bit_words.proofs.Tables.{pushed_four, xor_gate}
use Rattle.bit_words.proofs.builder.Builder.gate_xor.Goals as goal

pub returns-clause-gate : goal.returns-clause-gate
returns-clause-gate c = xor_gate c.args.self.now c.triple-4.new.self c.new_bit-lit.result (omega arith) (cc) c.args.a c.args.b c.requires.a c.requires.b
    (let e = pushed_four _ _ _ _ _ _ _ _ _ c.in_ok-triple.ensures.clauses c.in_ok-triple-2.ensures.clauses c.in_ok-triple-3.ensures.clauses c.in_ok-triple-4.ensures.clauses in rw (c.new_bit-lit.ensures.clauses, c.opposite-not_lit.ensures, c.opposite-not_a.ensures, c.opposite-not_b.ensures) at e)
