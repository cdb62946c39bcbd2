use Rattle.std.proofs.Common.{◌≡◌, ◌∙◌, ap, arith, ◌-◌, ◌+◌, [], ◌∷◌, drop}
use Rattle.std.proofs.lemmas.List.{drop_all, length-drop}
use Rattle.bit_words.proofs.Lists.{next_left, name_at}
use Rattle.bit_words.proofs.Composed.{stands_built}
use Rattle.bit_words.proofs.Standing.{stands_both}
use Rattle.bit_words.proofs.Less.{lesser_none, lesser_step, lesser_all}
use Rattle.bit_words.proofs.builder.Builder.is_less.Goals as goal

pub bits-init : goal.bits-init
bits-init c = lesser_none _ _ c.args.a.now c.args.b.now _ c.in_ok-so_far.ensures.gate

pub returns-in_err-so_far-2-clause-stands : goal.returns-in_err-so_far-2-clause-stands
returns-in_err-so_far-2-clause-stands c = stands_both _ _ _ (stands_built c.bits.invariant) c.gate_majority.ensures.stands

pub returns-in_err-less-clause-stands : goal.returns-in_err-less-clause-stands
returns-in_err-less-clause-stands c = stands_both _ _ _ (stands_built c.bits.invariant) c.gate_majority-2.ensures.stands

pub bits-preserved : goal.bits-preserved
bits-preserved c =
    let a = c.args.a.now in
    let b = c.args.b.now in
    let ex = next_left a c.bits.i c.bit.result (omega arith) c.bit.ensures in
    let ey = next_left b c.bits.i c.bit-in-bits.result (omega arith) c.bit-in-bits.ensures in
    let i = rw (ex, ey) at c.bits.invariant in
    lesser_step _ _ _ _ _ c.args.self.now.variables a b c.bit.result c.bit-in-bits.result _ (drop (c.bits.i + 1) a) (drop (c.bits.i + 1) b) _ _ i
    (name_at _ _ a c.bits.i c.bit.result c.requires.a (omega arith) c.bit.ensures (omega arith)) c.opposite-not_a.ensures
    (omega (arith, length-drop (c.bits.i + 1) a)) (omega (arith, length-drop (c.bits.i + 1) a, length-drop (c.bits.i + 1) b))
    c.in_ok-so_far-2.ensures.gate (omega arith)

pub returns-clause-gate : goal.returns-clause-gate
returns-clause-gate c =
    let a = c.args.a.now in
    let b = c.args.b.now in
    let x = c.bit-3.result in
    let y = c.bit-2.result in
    let la : c.bits.i ≡ c.width-last.result - 1 = omega arith in
    let ea : drop c.bits.i a ≡ x ∷ drop (c.bits.i + 1) a = next_left a c.bits.i x (omega arith) (rw la c.bit-3.ensures) in
    let eb : drop c.bits.i b ≡ y ∷ drop (c.bits.i + 1) b = next_left b c.bits.i y (omega arith) (rw la c.bit-2.ensures) in
    let ea' : drop c.bits.i a ≡ x ∷ [] = ea ∙ ap (λ l. x ∷ l) (drop_all (c.bits.i + 1) a (omega arith)) in
    let eb' : drop c.bits.i b ≡ y ∷ [] = eb ∙ ap (λ l. y ∷ l) (drop_all (c.bits.i + 1) b (omega arith)) in
    let i = rw (ea', eb') at c.bits.invariant in
    lesser_all _ _ _ _ _ c.args.self.now.variables a b x y _ _ _ i
    (name_at _ _ b c.bits.i y c.requires.b (omega arith) (rw la c.bit-2.ensures) (omega arith)) c.opposite-not_b.ensures c.in_ok-less.ensures.gate (omega arith)
