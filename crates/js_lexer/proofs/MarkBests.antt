-- Marks and what is refused: what is read is the longest lexeme.
use Rattle.std.proofs.Common.{◌≡◌, ℕ, ◌+◌, ◌≤◌, ◌<◌, Bool, true, false, cond, List, ◌++◌, length, drop, Option, Some, None, refl, sym, ap, subst, ◌∙◌, arith, inl, inr, length-append, length-drop}
use Rattle.std.specs.Prelude.{◌⊎◌, ◌&&◌, not, nat_lt, max, codes}
use Rattle.std.proofs.lemmas.Bool.{cases_lt, ltb-true}
use Rattle.js_units.specs.Characters.{is_digit}
use Rattle.js_lexer.specs.Runs.{starts}
use Rattle.js_lexer.specs.Tables.{is_among, marks, refused_marks}
use Rattle.js_lexer.specs.Lexemes.{IsMark, is_refused, IsRefused, Spells}
use Rattle.js_lexer.specs.Words.{Found, begins_with, longest_of, comment_close, optional_chain, longest_refused, mark_at}
use Rattle.js_lexer.specs.Reading.{IsBest, Reads}
use Rattle.js_lexer.specs.declared.token.Goal.{Goal}
use Rattle.js_lexer.specs.declared.token.TokenKind.TheVariants as k
use Rattle.js_lexer.specs.declared.token.Lexeme.{Lexeme}
use Rattle.js_lexer.specs.declared.token.Lexeme.TheVariants as lexeme
use Rattle.js_lexer.specs.declared.lexer.Family.TheVariants as family
use Rattle.js_lexer.proofs.Entries.{IsEntry, begins_is, longest_found, longest_bound, mark_le, refused_le}
use Rattle.js_lexer.proofs.Families.{family_at, spelt_family, Refusal, refusal_mark, refusal_close, refusal_chain, refusal_of, mark_some, refused_some, mark_stands, permitted}
use Rattle.js_lexer.proofs.Bests.{append_same}

-- ---- nothing in front is longer

mark_bound : (g : Goal) (units rest : List ℕ) → IsMark g units rest → length units ≤ longest_of marks units + length rest
mark_bound g units rest h = omega (arith, ap length h.units_are, length-append h.mark rest, subst (λ (q : List ℕ). length h.mark ≤ longest_of marks q) (sym h.units_are) (longest_bound marks h.mark rest h.is_mark))

close_is : (rest : List ℕ) → comment_close true (codes "-->" ++ rest) ≡ 3
unfolding comment_close
close_is rest = refl

chain_is : (rest : List ℕ) → starts is_digit rest ≡ false → optional_chain (codes "?." ++ rest) ≡ 2
unfolding optional_chain
chain_is rest e = rw e refl

refusal_bound : (s : Bool) (mark rest : List ℕ) → Refusal s mark rest → length mark ≤ longest_refused s (mark ++ rest)
unfolding longest_refused
refusal_bound s mark rest (refusal_mark e) = omega (arith, longest_bound refused_marks mark rest e)
refusal_bound s mark rest (refusal_close e m) =
    let same : comment_close s (mark ++ rest) ≡ 3 = ap (λ q. comment_close q (mark ++ rest)) e ∙ ap (λ q. comment_close true (q ++ rest)) m ∙ close_is rest in
    omega (arith, same, ap length m)
refusal_bound s mark rest (refusal_chain m e) =
    let same : optional_chain (mark ++ rest) ≡ 2 = ap (λ q. optional_chain (q ++ rest)) m ∙ chain_is rest e in
    omega (arith, same, ap length m)

refused_bound : (s : Bool) (units rest : List ℕ) → IsRefused s units rest → length units ≤ longest_refused s units + length rest
refused_bound s units rest h = omega (arith, ap length h.units_are, length-append h.mark rest, subst (λ (q : List ℕ). length h.mark ≤ longest_refused s q) (sym h.units_are) (refusal_bound s h.mark rest (refusal_of s h.mark rest h.is_refused)))

-- ---- what is in front

mark_found : (g : Goal) (units : List ℕ) → family_at g units ≡ Some family.Mark → 0 < longest_of marks units → IsMark g units (drop (longest_of marks units) units)
mark_found g units f some =
    let h = longest_found marks units some in
    record { mark = h.mark; units_are = h.units_are; is_mark = h.among; is_permitted = permitted g h.mark (drop (longest_of marks units) units) h.among (ap (family_at g) (sym h.units_are) ∙ f) }

refused_entry : (s : Bool) (units : List ℕ) (n : ℕ) → IsEntry refused_marks units n → IsRefused s units (drop n units)
refused_entry s units n h = record { mark = h.mark; units_are = h.units_are; is_refused = rw h.among refl }

close_refused : (rest : List ℕ) → is_refused true (codes "-->") rest ≡ true
unfolding refused_marks
close_refused rest = refl

chain_refused : (s : Bool) (rest : List ℕ) → starts is_digit rest ≡ false → is_refused s (codes "?.") rest ≡ true
unfolding refused_marks
chain_refused true rest e = rw e refl
chain_refused false rest e = rw e refl

close_by : (s : Bool) (units : List ℕ) (x : Bool) → begins_with (codes "-->") units ≡ x → (n : ℕ) → cond (s && x) 3 0 ≡ n → 0 < n → IsRefused s units (drop n units)
close_by true units true e n is some = subst (λ (q : ℕ). IsRefused true units (drop q units)) is (record { mark = codes "-->"; units_are = begins_is (codes "-->") units e; is_refused = close_refused (drop 3 units) })
close_by true units false e n is some = absurd (omega arith)
close_by false units x e n is some = absurd (omega arith)

close_found : (s : Bool) (units : List ℕ) (n : ℕ) → comment_close s units ≡ n → 0 < n → IsRefused s units (drop n units)
unfolding comment_close
close_found s units n is some = close_by s units (begins_with (codes "-->") units) refl n is some

chain_by : (s : Bool) (units : List ℕ) (x y : Bool) → begins_with (codes "?.") units ≡ x → starts is_digit (drop 2 units) ≡ y → (n : ℕ) → cond (x && not y) 2 0 ≡ n → 0 < n → IsRefused s units (drop n units)
chain_by s units true false e f n is some = subst (λ (q : ℕ). IsRefused s units (drop q units)) is (record { mark = codes "?."; units_are = begins_is (codes "?.") units e; is_refused = chain_refused s (drop 2 units) f })
chain_by s units true true e f n is some = absurd (omega arith)
chain_by s units false y e f n is some = absurd (omega arith)

chain_found : (s : Bool) (units : List ℕ) (n : ℕ) → optional_chain units ≡ n → 0 < n → IsRefused s units (drop n units)
unfolding optional_chain
chain_found s units n is some = chain_by s units (begins_with (codes "?.") units) (starts is_digit (drop 2 units)) refl refl n is some

refused_by : (s : Bool) (units : List ℕ) (n : ℕ) → max (longest_of refused_marks units) (max (comment_close s units) (optional_chain units)) ≡ n → 0 < n → IsRefused s units (drop n units)
refused_by s units n is some = elim (cases_lt (longest_of refused_marks units) n) [
  | inl l ↦ elim (cases_lt (comment_close s units) n) [
    | inl m ↦ chain_found s units n (omega arith) some
    | inr m ↦ close_found s units n (omega arith) some
  ]
  | inr l ↦
      let same : longest_of refused_marks units ≡ n = omega arith in
      let found = longest_found refused_marks units (omega arith) in
      refused_entry s units n (subst (λ (q : ℕ). IsEntry refused_marks units q) same found)
]

refused_found : (s : Bool) (units : List ℕ) → 0 < longest_refused s units → IsRefused s units (drop (longest_refused s units) units)
unfolding longest_refused
refused_found s units some = refused_by s units (longest_refused s units) refl some

-- ---- the best

refused_best : (g : Goal) (s : Bool) (units : List ℕ) → family_at g units ≡ Some family.Mark → longest_of marks units < longest_refused s units → IsBest g s lexeme.Refused units (drop (longest_refused s units) units)
refused_best g s units f more = record { spelt = here; others = refused_others }
  where
    here : IsRefused s units (drop (longest_refused s units) units)
    here = refused_found s units (omega arith)

    refused_others : (other : Lexeme) (behind : List ℕ) → Spells g s other units behind → (length (drop (longest_refused s units) units) < length behind) ⊎ ((other ≡ lexeme.Refused) × (behind ≡ drop (longest_refused s units) units))
    refused_others (lexeme.Token k.Mark) behind q = inl (omega (arith, mark_bound g units behind q, length-drop (longest_refused s units) units, refused_le s units))
    refused_others lexeme.Refused behind q = elim (cases_lt (length (drop (longest_refused s units) units)) (length behind)) [
      | inl l ↦ inl l
      | inr l ↦ inr (refl, (append_same q.mark behind here.mark (drop (longest_refused s units) units) (sym q.units_are ∙ here.units_are) (omega (arith, refused_bound s units behind q, length-drop (longest_refused s units) units, refused_le s units))).1)
    ]
    refused_others other behind q = absurd (let d = spelt_family g s other units behind q in cc)

mark_best : (g : Goal) (s : Bool) (units : List ℕ) → family_at g units ≡ Some family.Mark → longest_refused s units ≤ longest_of marks units → 0 < longest_of marks units → IsBest g s (lexeme.Token k.Mark) units (drop (longest_of marks units) units)
mark_best g s units f less some = record { spelt = here; others = mark_others }
  where
    rest : List ℕ
    rest = drop (longest_of marks units) units

    here : IsMark g units (drop (longest_of marks units) units)
    here = mark_found g units f some

    mark_others : (other : Lexeme) (behind : List ℕ) → Spells g s other units behind → (length (drop (longest_of marks units) units) < length behind) ⊎ ((other ≡ lexeme.Token k.Mark) × (behind ≡ drop (longest_of marks units) units))
    mark_others (lexeme.Token k.Mark) behind q = elim (cases_lt (length (drop (longest_of marks units) units)) (length behind)) [
      | inl l ↦ inl l
      | inr l ↦ inr (refl, (append_same q.mark behind here.mark (drop (longest_of marks units) units) (sym q.units_are ∙ here.units_are) (omega (arith, mark_bound g units behind q, length-drop (longest_of marks units) units, mark_le units))).1)
    ]
    mark_others lexeme.Refused behind q = elim (cases_lt (length (drop (longest_of marks units) units)) (length behind)) [
      | inl l ↦ inl l
      | inr l ↦
          let same = append_same q.mark behind here.mark (drop (longest_of marks units) units) (sym q.units_are ∙ here.units_are) (omega (arith, refused_bound s units behind q, length-drop (longest_of marks units) units, mark_le units)) in
          absurd (mark_stands s q.mark behind (subst (λ (w : List ℕ). is_among marks w ≡ true) (sym same.0) here.is_mark) q.is_refused)
    ]
    mark_others other behind q = absurd (let d = spelt_family g s other units behind q in cc)

mark_none : (g : Goal) (s : Bool) (units : List ℕ) → family_at g units ≡ Some family.Mark → longest_refused s units ≡ 0 → longest_of marks units ≡ 0 → (x : Lexeme) (rest : List ℕ) → Spells g s x units rest → ⊥
mark_none g s units f no_refused no_mark (lexeme.Token k.Mark) rest q = omega (arith, mark_bound g units rest q, ap length q.units_are, length-append q.mark rest, mark_some g units rest q)
mark_none g s units f no_refused no_mark lexeme.Refused rest q = omega (arith, refused_bound s units rest q, ap length q.units_are, length-append q.mark rest, refused_some s units rest q)
mark_none g s units f no_refused no_mark x rest q = absurd (let d = spelt_family g s x units rest q in cc)

mark_reads : (g : Goal) (s : Bool) (units : List ℕ) (x y : Bool) → family_at g units ≡ Some family.Mark → nat_lt (longest_of marks units) (longest_refused s units) ≡ x → nat_lt 0 (longest_of marks units) ≡ y → Reads g s units (cond x (Some (lexeme.Refused, drop (longest_refused s units) units)) (cond y (Some (lexeme.Token k.Mark, drop (longest_of marks units) units)) None))
mark_reads g s units true y f ex ey = refused_best g s units f (ltb-true (longest_of marks units) (longest_refused s units) ex)
mark_reads g s units false true f ex ey = mark_best g s units f (grind (arith, ex)) (ltb-true 0 (longest_of marks units) ey)
mark_reads g s units false false f ex ey = mark_none g s units f (grind (arith, ex, ey)) (grind (arith, ey))

pub reads_mark : (g : Goal) (s : Bool) (units : List ℕ) (r : Option Found) → family_at g units ≡ Some family.Mark → r ≡ mark_at s units → Reads g s units r
unfolding mark_at
reads_mark g s units r f e = subst (λ (q : Option Found). Reads g s units q) (sym e) (mark_reads g s units (nat_lt (longest_of marks units) (longest_refused s units)) (nat_lt 0 (longest_of marks units)) f refl refl)
