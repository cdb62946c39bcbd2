use Rattle.std.proofs.Common.{ℤ, List, ◌≡◌, ◌∙◌, ap, sym, arith, length, ◌++◌, [], ◌∷◌, subst, All}
use Rattle.std.proofs.lemmas.List.{length-append}
use Rattle.std.proofs.lemmas.List.Elements.{All-append}
use Rattle.cnf_core.specs.Literals.{Names}
use Rattle.bit_words.proofs.Lists.{padded_names}
use Rattle.bit_words.proofs.Composed.{built_both}
use Rattle.bit_words.proofs.Within.{all_later}
use Rattle.int_encoder.proofs.Lowest.{low_names}
use Rattle.int_encoder.proofs.Shifting.{right_zero_value}
use Rattle.int_encoder.proofs.shifts.shift_right_zero.Goals as goal

pub shift_down-requires-clause-a : goal.shift_down-requires-clause-a
shift_down-requires-clause-a c =
    let n = c.never.new.self.variables in
    let g = c.in_ok-never.ensures.gate in
    let P : List ℤ → Type 0 = λ l. All (Names n) l in
    subst P (sym c.in_ok-whole.ensures.bits) (All-append (Names n) c.in_ok-low.low c.in_ok-sign.sign
    (all_later c.args.builder.now.variables n c.in_ok-low.low (subst (λ l. All (Names c.args.builder.now.variables) l) (sym c.in_ok-low.ensures.bits) (low_names _ c.args.a.now c.requires.a)) g.variables)
    (subst P (sym c.in_ok-sign.ensures.bits) (padded_names n 0 (c.in_ok-never.never ∷ []) g.names)))

pub shift_down-requires-clause-count : goal.shift_down-requires-clause-count
shift_down-requires-clause-count c =
    let n = c.never.new.self.variables in
    let P : List ℤ → Type 0 = λ l. All (Names n) l in
    subst P (sym c.in_ok-count.ensures.bits) (low_names n c.args.b.now (all_later _ n c.args.b.now c.requires.b c.in_ok-never.ensures.gate.variables))

pub returns-clause-word : goal.returns-clause-word
returns-clause-word c =
    let h = c.in_ok-never.ensures.gate in
    let g = c.in_ok-word.ensures.word in
    let l : length c.in_ok-whole.whole ≡ 33 = ap length c.in_ok-whole.ensures.bits ∙ length-append c.in_ok-low.low c.in_ok-sign.sign ∙ (omega (arith, c.in_ok-low.ensures.width, c.in_ok-sign.ensures.width)) in
    record {
      some = g.some;
      built = built_both h g.built (omega (arith, l)) g.built.names
          (λ v p q. right_zero_value v c.args.a.now c.args.b.now c.in_ok-whole.whole c.in_ok-sign.sign c.in_ok-word.word c.in_ok-never.never c.requires.some_a c.requires.some_b
          c.in_ok-sign.ensures.bits (c.in_ok-whole.ensures.bits ∙ ap (λ l. l ++ c.in_ok-sign.sign) c.in_ok-low.ensures.bits) p (rw c.in_ok-count.ensures.bits at q));
    }
