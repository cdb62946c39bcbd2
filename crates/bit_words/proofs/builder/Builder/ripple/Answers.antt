use Rattle.std.proofs.Common.{◌∙◌, ap, arith, length, ◌+◌, [], ◌∷◌}
use Rattle.std.proofs.lemmas.List.{length-append, drop_all}
use Rattle.bit_words.proofs.Adding.{summing_none, summing_step, summing_all}
use Rattle.bit_words.proofs.Lists.{next_left, name_at}
use Rattle.bit_words.proofs.Composed.{stands_built}
use Rattle.bit_words.proofs.Standing.{stands_both}
use Rattle.bit_words.proofs.builder.Builder.ripple.Goals as goal

pub bits-init : goal.bits-init
bits-init c = record { built = summing_none c.args.self.now c.args.a.now c.args.b.now _ c.args.carry c.new-bits.ensures.items c.requires.carry; length = cc }

pub full_add-requires-clause-space : goal.full_add-requires-clause-space
full_add-requires-clause-space c = omega (arith, c.bits.invariant.built.few)

pub full_add-requires-clause-a : goal.full_add-requires-clause-a
full_add-requires-clause-a c = name_at _ _ c.args.a.now c.bits.i _ c.requires.a (omega arith) c.bit.ensures c.bits.invariant.built.variables

pub full_add-requires-clause-b : goal.full_add-requires-clause-b
full_add-requires-clause-b c = name_at _ _ c.args.b.now c.bits.i _ c.requires.b (omega arith) c.bit-in-bits.ensures c.bits.invariant.built.variables

pub full_add-requires-clause-c : goal.full_add-requires-clause-c
full_add-requires-clause-c c = c.bits.invariant.built.names 0 c.bits.carried (omega arith)

pub returns-in_err-sum-clause-stands : goal.returns-in_err-sum-clause-stands
returns-in_err-sum-clause-stands c = stands_both _ _ _ (stands_built c.bits.invariant.built) c.full_add.ensures.stands

pub returns-in_err-push-clause-stands : goal.returns-in_err-push-clause-stands
returns-in_err-push-clause-stands c = stands_both _ _ _ (stands_built c.bits.invariant.built) c.full_add.ensures.stands

pub bits-preserved : goal.bits-preserved
bits-preserved c =
    let ex = next_left c.args.a.now c.bits.i c.bit.result (omega arith) c.bit.ensures in
    let ey = next_left c.args.b.now c.bits.i c.bit-in-bits.result (omega arith) c.bit-in-bits.ensures in
    let i = rw (ex, ey) at c.bits.invariant.built in
    record {
      built = rw c.in_ok-push.ensures.items (summing_step _ _ _ _ _ _ _ _ c.bit.result c.bit-in-bits.result _ _ _ _ _ _ i c.in_ok-sum.ensures.sum (omega arith));
      length = ap length c.in_ok-push.ensures.items ∙ length-append c.bits.bits.items (c.in_ok-sum.sum ∷ []) ∙ ap (λ n. n + 1) c.bits.invariant.length;
    }

pub returns-clause-stands : goal.returns-clause-stands
returns-clause-stands c = stands_built c.bits.invariant.built

pub returns-clause-sum : goal.returns-clause-sum
returns-clause-sum c = rw c.from_bits.ensures (summing_all _ _ _ _ _ _ _ _ _ _ c.bits.invariant.built (drop_all c.bits.i c.args.a.now (omega arith)) (omega (arith, c.bits.invariant.length)) (omega arith))
