use Rattle.std.proofs.Common.{arith}
use Rattle.bit_words.proofs.Tables.{pushed_six, majority_gate}
use Rattle.bit_words.proofs.builder.Builder.gate_majority.Goals as goal

pub returns-clause-gate : goal.returns-clause-gate
returns-clause-gate c = majority_gate c.args.self.now c.triple-6.new.self c.new_bit-lit.result (omega arith) (cc) c.args.a c.args.b c.requires.a c.requires.b c.args.c c.requires.c
    (let e = pushed_six _ _ _ _ _ _ _ _ _ _ _ _ _ c.in_ok-triple.ensures.clauses c.in_ok-triple-2.ensures.clauses c.in_ok-triple-3.ensures.clauses c.in_ok-triple-4.ensures.clauses c.in_ok-triple-5.ensures.clauses c.in_ok-triple-6.ensures.clauses in rw (c.new_bit-lit.ensures.clauses, c.opposite-not_lit.ensures, c.opposite-not_a.ensures, c.opposite-not_b.ensures, c.opposite-not_c.ensures) at e)
