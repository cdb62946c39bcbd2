use Rattle.std.proofs.Common.{ℕ, suc, ◌≡◌, ◌∙◌, ap, arith, length, ◌-◌, ◌+◌, ◌*◌, [], ◌∷◌, drop}
use Rattle.std.proofs.lemmas.List.{drop_all}
use Rattle.bit_words.proofs.Lists.{next_left, name_at, padded_names}
use Rattle.bit_words.proofs.Composed.{stands_built, named_one, named_none}
use Rattle.bit_words.proofs.Within.{names_later, all_later}
use Rattle.bit_words.proofs.Standing.{stands_both}
use Rattle.bit_words.proofs.Composed.{named_more}
use Rattle.bit_words.proofs.Rows.{mul_next, mul_more}
use Rattle.bit_words.proofs.Dividing.{divide_none, divide_next, divide_all}
use Rattle.bit_words.proofs.builder.Builder.divide_bits.Goals as goal

pub steps-init : goal.steps-init
steps-init c =
    let never = c.args.never in
    let left = c.in_ok-rest.rest in
    record {
      built = divide_none _ _ _ (drop (c.width-count.result - 0) c.args.low.now) c.args.divisor.now _ left never
          (drop_all (c.width-count.result - 0) c.args.low.now (omega arith)) c.new-bits.ensures.items c.in_ok-rest.ensures.bits;
      bits = rw c.new-bits.ensures.items (named_none _);
      rest = rw c.in_ok-rest.ensures.bits (padded_names _ _ (never ∷ []) (named_one _ never c.requires.never));
      width = omega (arith, c.in_ok-rest.ensures.width);
      length = ap length c.new-bits.ensures.items;
    }

pub returns-in_err-next-clause-stands : goal.returns-in_err-next-clause-stands
returns-in_err-next-clause-stands c = stands_built c.steps.invariant.built

pub returns-in_err-digit-clause-stands : goal.returns-in_err-digit-clause-stands
returns-in_err-digit-clause-stands c = stands_both _ _ _ (stands_built c.steps.invariant.built) c.divide_step.ensures.stands

pub returns-in_err-insert-clause-stands : goal.returns-in_err-insert-clause-stands
returns-in_err-insert-clause-stands c = stands_both _ _ _ (stands_built c.steps.invariant.built) c.divide_step.ensures.stands

pub returns-in_err-push-clause-stands : goal.returns-in_err-push-clause-stands
returns-in_err-push-clause-stands c = stands_built c.steps.invariant.built

pub returns-clause-stands : goal.returns-clause-stands
returns-clause-stands c = stands_built c.steps.invariant.built

pub divide_step-requires-clause-space : goal.divide_step-requires-clause-space
divide_step-requires-clause-space c =
    omega (arith, c.steps.invariant.built.few, c.requires.space, mul_more c.steps.i (length c.args.low.now) (4 * length c.args.divisor.now + 8) (omega arith))

pub divide_step-requires-clause-next : goal.divide_step-requires-clause-next
divide_step-requires-clause-next c =
    let x = c.bit.result in
    rw c.in_ok-next.ensures (named_more _ x c.steps.rest
    (name_at _ _ c.args.low.now (c.width-count.result - 1 - c.steps.i) x c.requires.low (omega arith) c.bit.ensures c.steps.invariant.built.variables) c.steps.invariant.rest)

pub divide_step-requires-clause-divisor : goal.divide_step-requires-clause-divisor
divide_step-requires-clause-divisor c = all_later _ _ c.args.divisor.now c.requires.divisor c.steps.invariant.built.variables

pub divide_step-requires-clause-width : goal.divide_step-requires-clause-width
divide_step-requires-clause-width c = ap length c.in_ok-next.ensures ∙ (omega (arith, c.steps.invariant.width))

pub divide_step-requires-clause-never : goal.divide_step-requires-clause-never
divide_step-requires-clause-never c = names_later _ _ c.args.never c.requires.never c.steps.invariant.built.variables

pub steps-preserved : goal.steps-preserved
steps-preserved c =
    let low = c.args.low.now in
    let d = c.args.divisor.now in
    let count = c.width-count.result in
    let i = c.steps.i in
    let k : ℕ = count - 1 - i in
    let x = c.bit.result in
    let b = c.in_ok-digit.digit in
    let g = c.in_ok-digit.ensures.step in
    let ek : count - (i + 1) ≡ k = omega arith in
    let ek1 : k + 1 ≡ count - i = omega arith in
    let ed : drop (count - (i + 1)) low ≡ x ∷ drop (count - i) low =
    ap (λ n. drop n low) ek ∙ next_left low k x (omega arith) c.bit.ensures ∙ ap (λ n. x ∷ drop n low) ek1 in
    let n = c.divide_step.new.self.variables in
    record {
      built = rw (ed, c.in_ok-insert.ensures.items) (divide_next _ _ _ _ _ _ (drop (count - i) low) d c.steps.bits.items c.steps.rest _ _ x b c.args.never c.steps.invariant.built g
          c.in_ok-next.ensures (omega (arith, c.steps.invariant.width, c.requires.some)) (omega (arith, mul_next i (4 * length d + 8))));
      bits = rw c.in_ok-insert.ensures.items (named_more n b c.steps.bits.items (g.names 0 b (omega arith)) (all_later _ _ c.steps.bits.items c.steps.invariant.bits g.variables));
      rest = λ j e h. g.names (suc j) e (omega (arith, h));
      width = c.in_ok-digit.ensures.width;
      length = ap length c.in_ok-insert.ensures.items ∙ (omega (arith, c.steps.invariant.length));
    }

pub returns-clause-divided : goal.returns-clause-divided
returns-clause-divided c =
    let low = c.args.low.now in
    let count = c.width-count.result in
    rw c.from_bits.ensures (divide_all _ _ _ low (drop (count - c.steps.i) low) c.args.divisor.now c.steps.bits.items c.steps.rest _ c.args.never c.steps.invariant.built
    (ap (λ n. drop n low) (let e : count - c.steps.i ≡ 0 = omega arith in e)) c.in_ok-push.ensures.items
    (omega (arith, ap (λ n. n * (4 * length c.args.divisor.now + 8)) (let e : c.steps.i ≡ length low = omega arith in e)))
    (omega (arith, c.steps.invariant.length)) c.steps.invariant.width c.steps.invariant.bits c.steps.invariant.rest
    (names_later _ _ c.args.never c.requires.never c.steps.invariant.built.variables))
