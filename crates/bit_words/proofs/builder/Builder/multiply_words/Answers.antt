use Rattle.std.proofs.Common.{ℕ, ◌≡◌, ◌∙◌, ap, arith, length, ◌-◌, ◌+◌, ◌*◌, ◌<◌, [], ◌∷◌, drop}
use Rattle.std.proofs.lemmas.List.{length-append, drop_all, length-drop}
use Rattle.std.proofs.lemmas.List.Elements.{All-append}
use Rattle.cnf_core.specs.Literals.{Names}
use Rattle.bit_words.proofs.Lists.{next_left, name_at, padded_names, drop_names}
use Rattle.bit_words.proofs.Composed.{stands_built, built_as, named_one, named_none, name_of}
use Rattle.bit_words.proofs.Within.{names_later, all_later}
use Rattle.bit_words.proofs.Standing.{stands_both}
use Rattle.bit_words.proofs.Rows.{rowing_none, none_word, rows_step, rows_all, mul_next}
use Rattle.bit_words.proofs.builder.Builder.multiply_words.Goals as goal

pub rows-init : goal.rows-init
rows-init c =
    let g = c.in_ok-never.ensures.gate in
    let a = c.args.a.now in
    let b = c.args.b.now in
    let never = c.in_ok-never.never in
    let w : length c.in_ok-rows.rows ≡ length a = omega (arith, c.in_ok-rows.ensures.width) in
    record {
      built = built_as g (omega arith) (named_none _) (λ v p. (
        p,
        rowing_none v a b _ c.in_ok-rows.rows c.new-bits.ensures.items
            (none_word v _ c.in_ok-rows.rows never c.in_ok-rows.ensures.bits p),
      ));
      never = name_of g;
      rows = rw c.in_ok-rows.ensures.bits (padded_names _ _ (never ∷ []) (named_one _ never (name_of g)));
      bits = rw c.new-bits.ensures.items (named_none _);
      width = w;
      length = ap length c.new-bits.ensures.items;
    }

pub returns-in_err-row-clause-stands : goal.returns-in_err-row-clause-stands
returns-in_err-row-clause-stands c = stands_both _ _ _ (stands_built c.rows.invariant.built) c.masked.ensures.stands

pub returns-in_err-sum-clause-stands : goal.returns-in_err-sum-clause-stands
returns-in_err-sum-clause-stands c = stands_both _ _ _ (stands_built c.rows.invariant.built) (stands_both _ _ _ c.masked.ensures.stands c.add_from.ensures.stands)

pub returns-in_err-row-2-clause-stands : goal.returns-in_err-row-2-clause-stands
returns-in_err-row-2-clause-stands c = stands_both _ _ _ (stands_built c.rows.invariant.built) c.masked-2.ensures.stands

pub returns-in_err-rest-clause-stands : goal.returns-in_err-rest-clause-stands
returns-in_err-rest-clause-stands c = stands_both _ _ _ (stands_built c.rows.invariant.built) (stands_both _ _ _ c.masked-2.ensures.stands c.subtract_from.ensures.stands)

pub rows-preserved : goal.rows-preserved
rows-preserved c =
    let a = c.args.a.now in
    let b = c.args.b.now in
    let x = c.bit.result in
    let low = c.bit-in-rows.result in
    let left = drop (c.rows.i + 1) b in
    let row = c.in_ok-row.ensures.word in
    let sum = c.in_ok-sum.ensures.word in
    let k : ℕ = 4 * length a + 3 in
    let la : 0 < length a = c.requires.some_a in
    let ex = next_left b c.rows.i x (omega arith) c.bit.ensures in
    let i = rw ex at c.rows.invariant.built in
    let ws : length c.in_ok-sum.sum ≡ length a + 1 = omega (arith, c.in_ok-sum.ensures.width, c.in_ok-row.ensures.width, c.rows.invariant.width) in
    let names = sum.built.names in
    record {
      built = rw c.in_ok-push.ensures.items (rows_step _ _ _ _ _ _ _ a b c.rows.bits.items c.rows.rows _ _ _ left x low c.in_ok-never.never i row sum
          (omega (arith, length-drop (c.rows.i + 1) b)) (omega (arith, ws, la)) c.bit-in-rows.ensures c.in_ok-rows-2.ensures.bits
          (omega (arith, mul_next c.rows.i k, c.in_ok-row.ensures.width, c.rows.invariant.width)));
      never = names_later _ _ c.in_ok-never.never c.rows.invariant.never (omega (arith, row.built.variables, sum.built.variables));
      rows = rw c.in_ok-rows-2.ensures.bits (drop_names _ 1 c.in_ok-sum.sum names);
      bits = rw c.in_ok-push.ensures.items (All-append (Names _) c.rows.bits.items (low ∷ [])
          (all_later _ _ c.rows.bits.items c.rows.invariant.bits (omega (arith, row.built.variables, sum.built.variables)))
          (named_one _ low (name_at _ _ c.in_ok-sum.sum 0 low names (omega (arith, ws)) c.bit-in-rows.ensures (omega arith))));
      width = ap length c.in_ok-rows-2.ensures.bits ∙ (omega (arith, length-drop 1 c.in_ok-sum.sum, ws));
      length = ap length c.in_ok-push.ensures.items ∙ length-append c.rows.bits.items (low ∷ []) ∙ ap (λ n. n + 1) c.rows.invariant.length;
    }

pub returns-clause-word : goal.returns-clause-word
returns-clause-word c =
    let a = c.args.a.now in
    let b = c.args.b.now in
    let x = c.bit-2.result in
    let k : ℕ = 4 * length a + 3 in
    let li : c.rows.i ≡ c.width-last.result - 1 = omega arith in
    let lb : length b ≡ c.rows.i + 1 = omega arith in
    let ex : drop c.rows.i b ≡ x ∷ [] =
    next_left b c.rows.i x (omega arith) (rw li c.bit-2.ensures) ∙ ap (λ l. x ∷ l) (drop_all (c.rows.i + 1) b (omega arith)) in
    let i = rw ex at c.rows.invariant.built in
    rw c.from_bits.ensures (rows_all _ _ _ _ _ _ _ a b c.rows.bits.items c.rows.rows _ _ _ x c.in_ok-never.never i c.in_ok-row-2.ensures.word c.in_ok-rest.ensures.word
    (omega (arith, mul_next c.rows.i k, ap (λ n. n * k) lb, c.in_ok-row-2.ensures.width, c.rows.invariant.width)) c.rows.invariant.bits c.in_ok-append_to.ensures)
