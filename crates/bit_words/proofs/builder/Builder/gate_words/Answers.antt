use Rattle.std.proofs.Common.{◌∙◌, ap, arith, length, ◌+◌, [], ◌∷◌, drop}
use Rattle.std.proofs.lemmas.List.{length-append, drop_all}
use Rattle.bit_words.proofs.Lists.{next_left, name_at}
use Rattle.bit_words.proofs.Composed.{stands_built}
use Rattle.bit_words.proofs.Standing.{stands_both}
use Rattle.bit_words.specs.Joins.{gate_value}
use Rattle.bit_words.proofs.Zipped.{named_later, zipping_none, zipping_step, zipping_all}
use Rattle.bit_words.proofs.builder.Builder.gate_words.Goals as goal

pub bits-init : goal.bits-init
bits-init c = record { built = zipping_none c.args.self.now (λ v. gate_value v c.args.gate.now) c.args.a.now c.args.b.now _ c.new-bits.ensures.items; length = cc }

pub gate_of-requires-clause-space : goal.gate_of-requires-clause-space
gate_of-requires-clause-space c = omega (arith, c.bits.invariant.built.few)

pub gate_of-requires-clause-gate : goal.gate_of-requires-clause-gate
gate_of-requires-clause-gate c = named_later _ _ c.args.gate.now c.requires.gate c.bits.invariant.built.variables

pub gate_of-requires-clause-a : goal.gate_of-requires-clause-a
gate_of-requires-clause-a c = name_at _ _ c.args.a.now c.bits.i _ c.requires.a (omega arith) c.bit.ensures c.bits.invariant.built.variables

pub gate_of-requires-clause-b : goal.gate_of-requires-clause-b
gate_of-requires-clause-b c = name_at _ _ c.args.b.now c.bits.i _ c.requires.b (omega arith) c.bit-in-bits.ensures c.bits.invariant.built.variables

pub returns-in_err-bit-clause-stands : goal.returns-in_err-bit-clause-stands
returns-in_err-bit-clause-stands c = stands_both _ _ _ (stands_built c.bits.invariant.built) c.gate_of.ensures.stands

pub returns-in_err-push-clause-stands : goal.returns-in_err-push-clause-stands
returns-in_err-push-clause-stands c = stands_both _ _ _ (stands_built c.bits.invariant.built) c.gate_of.ensures.stands

pub returns-clause-stands : goal.returns-clause-stands
returns-clause-stands c = stands_built c.bits.invariant.built

pub returns-clause-width : goal.returns-clause-width
returns-clause-width c = ap length c.from_bits.ensures ∙ (omega (arith, c.bits.invariant.length))

pub bits-preserved : goal.bits-preserved
bits-preserved c =
    let a = c.args.a.now in
    let b = c.args.b.now in
    let ex = next_left a c.bits.i c.bit.result (omega arith) c.bit.ensures in
    let ey = next_left b c.bits.i c.bit-in-bits.result (omega arith) c.bit-in-bits.ensures in
    let i = rw (ex, ey) at c.bits.invariant.built in
    record {
      built = rw c.in_ok-push.ensures.items (zipping_step _ _ _ _ _ (λ v. gate_value v c.args.gate.now) a b c.bit.result c.bit-in-bits.result (drop (c.bits.i + 1) a) (drop (c.bits.i + 1) b) _ _ i c.in_ok-bit.ensures.gate (omega arith));
      length = ap length c.in_ok-push.ensures.items ∙ length-append c.bits.bits.items (c.in_ok-bit.bit ∷ []) ∙ ap (λ n. n + 1) c.bits.invariant.length;
    }

pub returns-clause-bits : goal.returns-clause-bits
returns-clause-bits c =
    let a = c.args.a.now in
    let b = c.args.b.now in
    rw c.from_bits.ensures (zipping_all _ _ _ _ (λ v. gate_value v c.args.gate.now) a b (drop c.bits.i a) (drop c.bits.i b) _ c.bits.invariant.built (drop_all c.bits.i a (omega arith)) (omega arith))
