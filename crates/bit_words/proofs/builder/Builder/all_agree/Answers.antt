use Rattle.std.proofs.Common.{arith, ◌+◌, drop}
use Rattle.std.proofs.lemmas.List.{drop_all}
use Rattle.bit_words.proofs.Lists.{next_left, name_at}
use Rattle.bit_words.proofs.Composed.{stands_built}
use Rattle.bit_words.proofs.Standing.{stands_both}
use Rattle.bit_words.proofs.Equal.{agreeing_none, agreeing_step, agreeing_all}
use Rattle.bit_words.proofs.builder.Builder.all_agree.Goals as goal

pub bits-init : goal.bits-init
bits-init c = agreeing_none _ _ c.args.a.now c.args.b.now _ c.in_ok-so_far.ensures.gate

pub gate_xor-requires-clause-space : goal.gate_xor-requires-clause-space
gate_xor-requires-clause-space c = omega (arith, c.bits.invariant.few)

pub gate_xor-requires-clause-a : goal.gate_xor-requires-clause-a
gate_xor-requires-clause-a c = name_at _ _ c.args.a.now c.bits.i _ c.requires.a (omega arith) c.bit.ensures c.bits.invariant.variables

pub gate_xor-requires-clause-b : goal.gate_xor-requires-clause-b
gate_xor-requires-clause-b c = name_at _ _ c.args.b.now c.bits.i _ c.requires.b (omega arith) c.bit-in-bits.ensures c.bits.invariant.variables

pub bits-preserved : goal.bits-preserved
bits-preserved c =
    let ex = next_left c.args.a.now c.bits.i c.bit.result (omega arith) c.bit.ensures in
    let ey = next_left c.args.b.now c.bits.i c.bit-in-bits.result (omega arith) c.bit-in-bits.ensures in
    let i = rw (ex, ey) at c.bits.invariant in
    agreeing_step _ _ _ _ _ _ c.args.a.now c.args.b.now c.bit.result c.bit-in-bits.result (drop (c.bits.i + 1) c.args.a.now) (drop (c.bits.i + 1) c.args.b.now) _ _ _ _ i c.in_ok-differ.ensures.gate c.opposite.ensures c.in_ok-so_far-2.ensures.gate (omega arith)

pub returns-clause-stands : goal.returns-clause-stands
returns-clause-stands c = stands_built c.bits.invariant

pub returns-clause-gate : goal.returns-clause-gate
returns-clause-gate c = agreeing_all _ _ _ _ c.args.a.now c.args.b.now (drop c.bits.i c.args.a.now) (drop c.bits.i c.args.b.now) _ c.bits.invariant (drop_all c.bits.i c.args.a.now (omega arith)) (omega arith)

pub returns-in_err-differ-clause-stands : goal.returns-in_err-differ-clause-stands
returns-in_err-differ-clause-stands c = stands_both _ _ _ (stands_built c.bits.invariant) c.gate_xor.ensures.stands

pub returns-in_err-so_far-2-clause-stands : goal.returns-in_err-so_far-2-clause-stands
returns-in_err-so_far-2-clause-stands c = stands_both _ _ _ (stands_built c.bits.invariant) (stands_both _ _ _ c.gate_xor.ensures.stands c.gate_and.ensures.stands)
