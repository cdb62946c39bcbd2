-- Array indexes are the canonical decimal texts.
use Rattle.std.proofs.Common.{◌≡◌, ℕ, ◌+◌, ◌-◌, ◌*◌, ◌^◌, ◌<◌, ◌≤◌, zero, suc, Bool, true, false, List, [], ◌∷◌, length, get_or, Option, Some, None, refl, sym, ap, subst, ◌∙◌, arith, rules}
use Rattle.std.specs.Prelude.{nat_le, not, ◌==◌, ◌&&◌, if◌then◌else◌, decimal}
use Rattle.std.specs.Str.{all_ascii_digits}
use Rattle.std.proofs.lemmas.Bool.{lt-leb, le-leb, leb-true, and_parts}
use Rattle.std.proofs.lemmas.Fmt.{decimal_digit, first_decimal, decimal_nonempty, digits_decimal, digits_value-decimal, decimal-digits_value}
use Rattle.std.proofs.lemmas.Str.Parse.{IsNumeralModel, numerals_by_fold}
use Rattle.js_values.specs.OwnKeys.{read_on, number_from, begins_well, array_index, IsIndexText}

-- these are the digits and the value of std
own : IsNumeralModel (λ ds. all_ascii_digits ds ≡ true) (read_on 0)
own = numerals_by_fold _ (search rules) read_on (search rules)

-- a number only grows by more digits
grows : (n : ℕ) (ds : List ℕ) → n ≤ read_on n ds
grows n [] = omega arith
grows n (d ∷ ds) = omega (arith, grows (10 * n + (d - 48)) ds)

none_left : (a b : Bool) (n : ℕ) → b ≡ false → (if a && b then Some n else None) ≡ None
none_left true b n e = rw e refl
none_left false b n e = refl

-- past the most there is no number
pub past_most : (n : ℕ) (ds : List ℕ) → 0 < length ds → 4294967294 < 10 * n + (get_or ds 0 0 - 48) → number_from n ds ≡ None
past_most n [] some large = absurd (omega (arith, some))
past_most n (d ∷ ds) some large = none_left (all_ascii_digits (d ∷ ds)) (nat_le (read_on n (d ∷ ds)) 4294967294) (read_on n (d ∷ ds)) (lt-leb (read_on n (d ∷ ds)) 4294967294 (omega (arith, large, grows (10 * n + (d - 48)) ds)))

picked : (b c : Bool) (m n : ℕ) → (if b then (if c then Some m else None) else None) ≡ Some n → (b ≡ true) × (c ≡ true) × (m ≡ n)
picked true true m n e = (refl, refl, cc)
picked true false m n e = (refl, cc, cc)
picked false c m n e = (cc, cc, cc)

well_begun : (ds : List ℕ) → begins_well ds ≡ true → (0 < length ds) × (get_or ds 0 0 ≡ 48 → length ds ≡ 1)
well_begun [] e = (cc, cc)
well_begun (c ∷ []) e = (omega arith, λ _. refl)
well_begun (c ∷ d ∷ ds) e = (omega arith, λ zero. let f : not (48 == 48) ≡ true = subst (λ (x : ℕ). not (x == 48) ≡ true) zero e in cc)

begun_well : (ds : List ℕ) → 0 < length ds → 48 < get_or ds 0 0 → begins_well ds ≡ true
begun_well [] some first = absurd (omega (arith, some))
begun_well (c ∷ []) some first = refl
begun_well (c ∷ d ∷ ds) some first = grind (arith, rules)

decimal_begins_well : (n : ℕ) → n ≤ 4294967294 → begins_well (decimal n) ≡ true
decimal_begins_well zero most = rw (decimal_digit 0 (omega arith)) refl
decimal_begins_well (suc n) most = begun_well (decimal (suc n)) (decimal_nonempty (suc n) (omega (arith, most))) (first_decimal (suc n) (omega arith) (omega (arith, most)))

pub index_text : (key : List ℕ) (n : ℕ) → array_index key ≡ Some n → IsIndexText n key
index_text key n e =
    let p = picked (begins_well key) (all_ascii_digits key && nat_le (read_on 0 key) 4294967294) (read_on 0 key) n e in
    let q = and_parts (all_ascii_digits key) (nat_le (read_on 0 key) 4294967294) p.1 in
    let w = well_begun key p.0 in
    let most : read_on 0 key ≤ 4294967294 = leb-true (read_on 0 key) 4294967294 q.1 in
    record {
      most = omega (arith, most, p.2);
      text = sym (decimal-digits_value own key q.0 w.0 w.1 (omega (arith, most))) ∙ ap decimal p.2;
    }

pub text_index : (key : List ℕ) (n : ℕ) → IsIndexText n key → array_index key ≡ Some n
text_index key n h =
    let most = h.most in
    let small : n < 2 ^ 64 = omega (arith, most) in
    rw h.text (rw (decimal_begins_well n most) (rw (digits_decimal own n small) (rw (digits_value-decimal own n small) (rw (le-leb n 4294967294 most) refl))))

-- the array indexes are the canonical texts of the numbers up to the most
pub numeral : (key : List ℕ) (r : Option ℕ) → r ≡ array_index key → (n : ℕ) → (r ≡ Some n → IsIndexText n key) × (IsIndexText n key → r ≡ Some n)
numeral key r e n = (λ f. index_text key n (sym e ∙ f), λ h. e ∙ text_index key n h)
