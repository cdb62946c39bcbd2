-- Numbers that are read are those that are written.
use Rattle.std.proofs.Common.{◌≡◌, ℕ, zero, suc, ◌+◌, ◌-◌, ◌*◌, ◌^◌, ◌<◌, ◌≤◌, Bool, true, false, cond, List, [], ◌∷◌, ◌++◌, length, get_or, Option, Some, None, refl, sym, ap, subst, ◌∙◌, arith, rules}
use Rattle.std.specs.Prelude.{◌==◌, nat_le, not, ℤ, pos, negsuc, decimal}
use Rattle.std.specs.List.{list_all}
use Rattle.std.specs.Fmt.{signed_decimal}
use Rattle.std.proofs.lemmas.Bool.{eqb-true, eqb-false, ne_eqb, le-leb, leb-true, and_parts}
use Rattle.std.proofs.lemmas.Fmt.{decimal_digit, first_decimal, decimal_nonempty, digits_decimal, digits_value-decimal, decimal-digits_value}
use Rattle.std.proofs.lemmas.Str.Parse.{IsNumeralModel, numerals_by_fold}
use Rattle.js_units.specs.Characters.{is_digit}
use Rattle.js_units.proofs.Reading.{same_read}
use Rattle.proof_text.proofs.Whole.{is_inner}
use Rattle.proof_text.specs.Numbers.{IsBetween, digits_on, number_at, not_zero, negative, positive, signed_at}

-- the digits behind a number give this one
read_on : ℕ → List ℕ → ℕ
read_on n [] = n
read_on n (d ∷ ds) = read_on (n * 10 + (d - 48)) ds

own : IsNumeralModel (λ ds. list_all is_digit ds ≡ true) (read_on 0)
unfolding read_on is_digit
own = numerals_by_fold _ (search rules) read_on (search rules)

grows : (n : ℕ) (ds : List ℕ) → n ≤ read_on n ds
unfolding read_on
grows n [] = omega arith
grows n (d ∷ ds) = omega (arith, grows (n * 10 + (d - 48)) ds)

-- no digit stands in front
abbrev pub apart : List ℕ → Bool
apart [] = true
apart (b ∷ bs) = not (is_digit b)

-- ---- what is read

record Digits (most n : ℕ) (list : List ℕ) (m : ℕ) (rest : List ℕ) : Type 0 where
  digits : List ℕ
  all : list_all is_digit digits ≡ true
  list_is : digits ++ rest ≡ list
  value : read_on n digits ≡ m
  within : m ≤ most

digits_by : (most n b : ℕ) (bs : List ℕ) (m : ℕ) (rest : List ℕ) → n ≤ most → (x y : Bool) → is_digit b ≡ x → nat_le (n * 10 + (b - 48)) most ≡ y → cond x (cond y (digits_on most (n * 10 + (b - 48)) bs) None) (Some (n, b ∷ bs)) ≡ Some (m, rest) → (n * 10 + (b - 48) ≤ most → digits_on most (n * 10 + (b - 48)) bs ≡ Some (m, rest) → Digits most (n * 10 + (b - 48)) bs m rest) → Digits most n (b ∷ bs) m rest
unfolding read_on
digits_by most n b bs m rest w true true h k f go =
    let more = go (leb-true (n * 10 + (b - 48)) most k) f in
    record { digits = b ∷ more.digits; all = rw h more.all; list_is = ap (λ (q : List ℕ). b ∷ q) more.list_is; value = more.value; within = more.within }
digits_by most n b bs m rest w true false h k f go = absurd cc
digits_by most n b bs m rest w false y h k f go =
    let same = same_read n m (b ∷ bs) rest f in
    record { digits = []; all = refl; list_is = sym same.1; value = same.0; within = subst (λ (q : ℕ). q ≤ most) same.0 w }

digits_of : (most n : ℕ) (list : List ℕ) (m : ℕ) (rest : List ℕ) → n ≤ most → digits_on most n list ≡ Some (m, rest) → Digits most n list m rest
unfolding read_on
digits_of most n [] m rest w e =
    let same = same_read n m [] rest e in
    record { digits = []; all = refl; list_is = sym same.1; value = same.0; within = subst (λ (q : ℕ). q ≤ most) same.0 w }
digits_of most n (b ∷ bs) m rest w e = digits_by most n b bs m rest w (is_digit b) (nat_le (n * 10 + (b - 48)) most) refl refl e (λ v f. digits_of most (n * 10 + (b - 48)) bs m rest v f)

first_kept : (b : ℕ) (bs ds rest : List ℕ) → (ds ++ rest ≡ b ∷ bs) → is_digit b ≡ true → (b ≡ 48 → ⊥) → (ds ≡ [] → ⊥) → (0 < length ds) × (get_or ds 0 0 ≡ 48 → length ds ≡ 1)
first_kept b bs [] rest h d z some = absurd (some refl)
first_kept b bs (x ∷ ds) rest h d z some = (omega arith, λ e. absurd (z (let same : x ≡ b = cc in sym same ∙ e)))

-- a digit in front is one of those read
some_read : (most n b : ℕ) (bs : List ℕ) (m : ℕ) (rest : List ℕ) → is_digit b ≡ true → (d : Digits most n (b ∷ bs) m rest) → digits_on most n (b ∷ bs) ≡ Some (m, rest) → apart rest ≡ true → d.digits ≡ [] → ⊥
some_read most n b bs m rest h d e f g =
    let same : rest ≡ b ∷ bs = subst (λ (q : List ℕ). q ++ rest ≡ b ∷ bs) g d.list_is in
    let k : apart (b ∷ bs) ≡ true = ap apart (sym same) ∙ f in
    let j : not (is_digit b) ≡ true = k in
    let i : not true ≡ true = subst (λ (q : Bool). not q ≡ true) h j in
    cc

apart_by : (most n b : ℕ) (bs : List ℕ) (m : ℕ) (rest : List ℕ) (x y : Bool) → is_digit b ≡ x → nat_le (n * 10 + (b - 48)) most ≡ y → cond x (cond y (digits_on most (n * 10 + (b - 48)) bs) None) (Some (n, b ∷ bs)) ≡ Some (m, rest) → (digits_on most (n * 10 + (b - 48)) bs ≡ Some (m, rest) → apart rest ≡ true) → apart rest ≡ true
apart_by most n b bs m rest true true h k f go = go f
apart_by most n b bs m rest true false h k f go = absurd cc
apart_by most n b bs m rest false y h k f go =
    let same = same_read n m (b ∷ bs) rest f in
    subst (λ (q : List ℕ). apart q ≡ true) same.1 (rw h refl)

apart_of : (most n : ℕ) (list : List ℕ) (m : ℕ) (rest : List ℕ) → digits_on most n list ≡ Some (m, rest) → apart rest ≡ true
apart_of most n [] m rest e = let same = same_read n m [] rest e in subst (λ (q : List ℕ). apart q ≡ true) same.1 refl
apart_of most n (b ∷ bs) m rest e = apart_by most n b bs m rest (is_digit b) (nat_le (n * 10 + (b - 48)) most) refl refl e (λ f. apart_of most (n * 10 + (b - 48)) bs m rest f)

number_by : (most b : ℕ) (bs : List ℕ) (m : ℕ) (rest : List ℕ) → most < 2 ^ 64 → (x y : Bool) → (b == 48) ≡ x → is_digit b ≡ y → cond x (Some (0, bs)) (cond y (digits_on most 0 (b ∷ bs)) None) ≡ Some (m, rest) → (m ≤ most) × (decimal m ++ rest ≡ b ∷ bs)
number_by most b bs m rest small true y h k e =
    let same = same_read 0 m bs rest e in
    (omega (arith, same.0), rw (← same.0, ← same.1, decimal_digit 0 (omega arith), eqb-true b 48 h) refl)
number_by most b bs m rest small false true h k e =
    let d = digits_of most 0 (b ∷ bs) m rest (omega arith) e in
    let kept = first_kept b bs d.digits rest d.list_is k (eqb-false b 48 h) (some_read most 0 b bs m rest k d e (apart_of most 0 (b ∷ bs) m rest e)) in
    let value : read_on 0 d.digits < 2 ^ 64 = omega (arith, d.value, d.within, small) in
    (d.within, ap (λ (q : ℕ). decimal q ++ rest) (sym d.value) ∙ ap (λ (q : List ℕ). q ++ rest) (decimal-digits_value own d.digits d.all kept.0 kept.1 value) ∙ d.list_is)
number_by most b bs m rest small false false h k e = absurd cc

-- what is read is a number, and what is behind it
pub number_sound : (most : ℕ) → most < 2 ^ 64 → (list : List ℕ) (m : ℕ) (rest : List ℕ) → number_at most list ≡ Some (m, rest) → (m ≤ most) × (decimal m ++ rest ≡ list)
unfolding number_at
number_sound most small [] m rest e = absurd cc
number_sound most small (b ∷ bs) m rest e = number_by most b bs m rest small (b == 48) (is_digit b) refl refl e

-- ---- what is written

stops : (most n : ℕ) (rest : List ℕ) → apart rest ≡ true → digits_on most n rest ≡ Some (n, rest)
stops most n [] e = refl
stops most n (b ∷ bs) e = rw (stop (is_digit b) e) refl
  where
    stop : (x : Bool) → not x ≡ true → x ≡ false
    stop true k = absurd cc
    stop false k = refl

on_digits : (most n : ℕ) (ds rest : List ℕ) → list_all is_digit ds ≡ true → apart rest ≡ true → read_on n ds ≤ most → digits_on most n (ds ++ rest) ≡ Some (read_on n ds, rest)
unfolding read_on
on_digits most n [] rest all e w = stops most n rest e
on_digits most n (d ∷ ds) rest all e w =
    let parts = and_parts (is_digit d) (list_all is_digit ds) all in
    rw (parts.0, le-leb (n * 10 + (d - 48)) most (omega (arith, w, grows (n * 10 + (d - 48)) ds))) (on_digits most (n * 10 + (d - 48)) ds rest parts.1 e w)

pick : (x y : Bool) (p q r : Option (ℕ × List ℕ)) → x ≡ false → y ≡ true → cond x p (cond y q r) ≡ q
pick true y p q r e h = absurd cc
pick false true p q r e h = refl
pick false false p q r e h = absurd cc

first_digit : (most : ℕ) (ds rest : List ℕ) (n : ℕ) → 0 < length ds → 48 < get_or ds 0 0 → list_all is_digit ds ≡ true → digits_on most 0 (ds ++ rest) ≡ Some (n, rest) → number_at most (ds ++ rest) ≡ Some (n, rest)
unfolding number_at
first_digit most [] rest n some large all e = absurd (omega (arith, some))
first_digit most (d ∷ ds) rest n some large all e =
    let parts = and_parts (is_digit d) (list_all is_digit ds) all in
    let apart' : (d == 48) ≡ false = ne_eqb d 48 (λ same. omega (arith, same, large)) in
    pick (d == 48) (is_digit d) (Some (0, ds ++ rest)) (digits_on most 0 (d ∷ ds ++ rest)) None apart' parts.0 ∙ e

zero_read : (most : ℕ) (rest : List ℕ) → number_at most (48 ∷ rest) ≡ Some (0, rest)
unfolding number_at
zero_read most rest = refl

pub number_complete : (most : ℕ) → most < 2 ^ 64 → (n : ℕ) (rest : List ℕ) → n ≤ most → apart rest ≡ true → number_at most (decimal n ++ rest) ≡ Some (n, rest)
number_complete most small zero rest w e = rw (decimal_digit 0 (omega arith)) (zero_read most rest)
number_complete most small (suc n) rest w e =
    let low : suc n < 2 ^ 64 = omega (arith, w, small) in
    let value = digits_value-decimal own (suc n) low in
    first_digit most (decimal (suc n)) rest (suc n) (decimal_nonempty (suc n) low) (first_decimal (suc n) (omega arith) low) (digits_decimal own (suc n) low)
    (on_digits most 0 (decimal (suc n)) rest (digits_decimal own (suc n) low) e (omega (arith, value, w)) ∙ ap (λ (q : ℕ). Some (q, rest)) value)

-- ---- one that isn't 0

pub not_zero_of : (o : Option (ℕ × List ℕ)) (n : ℕ) (rest : List ℕ) → not_zero o ≡ Some (n, rest) → (o ≡ Some (n, rest)) × (1 ≤ n)
not_zero_of None n rest e = absurd cc
not_zero_of (Some (zero, r)) n rest e = absurd cc
not_zero_of (Some (suc m, r)) n rest e = let same = same_read (suc m) n r rest e in (e, omega (arith, same.0))

pub not_zero_is : (n : ℕ) (rest : List ℕ) → 1 ≤ n → not_zero (Some (n, rest)) ≡ Some (n, rest)
not_zero_is zero rest h = absurd (omega (arith, h))
not_zero_is (suc n) rest h = refl

-- ---- with a sign

negative_of : (below : ℕ) → below < 2 ^ 64 → (bs : List ℕ) (o : Option (ℕ × List ℕ)) (z : ℤ) (rest : List ℕ) → number_at below bs ≡ o → negative o ≡ Some (z, rest) → (above : ℕ) → IsBetween below above z × (signed_decimal z ++ rest ≡ 45 ∷ bs)
negative_of below small bs None z rest e h above = absurd cc
negative_of below small bs (Some (zero, r)) z rest e h above = absurd cc
negative_of below small bs (Some (suc n, r)) z rest e h above =
    let k = number_sound below small bs (suc n) r e in
    let same = same_read (negsuc n) z r rest h in
    (subst (λ (q : ℤ). IsBetween below above q) same.0 (omega (arith, k.0)), subst (λ (q : ℤ). signed_decimal q ++ rest ≡ 45 ∷ bs) same.0 (subst (λ (q : List ℕ). 45 ∷ decimal (suc n) ++ q ≡ 45 ∷ bs) same.1 (ap (λ (q : List ℕ). 45 ∷ q) k.1)))

positive_of : (above : ℕ) → above < 2 ^ 64 → (list : List ℕ) (o : Option (ℕ × List ℕ)) (z : ℤ) (rest : List ℕ) → number_at above list ≡ o → positive o ≡ Some (z, rest) → (below : ℕ) → IsBetween below above z × (signed_decimal z ++ rest ≡ list)
positive_of above small list None z rest e h below = absurd cc
positive_of above small list (Some (n, r)) z rest e h below =
    let k = number_sound above small list n r e in
    let same = same_read (pos n) z r rest h in
    (subst (λ (q : ℤ). IsBetween below above q) same.0 k.0, subst (λ (q : ℤ). signed_decimal q ++ rest ≡ list) same.0 (subst (λ (q : List ℕ). decimal n ++ q ≡ list) same.1 k.1))

signed_by : (below above b : ℕ) (bs : List ℕ) → below < 2 ^ 64 → above < 2 ^ 64 → (z : ℤ) (rest : List ℕ) (x : Bool) → (b == 45) ≡ x → cond x (negative (number_at below bs)) (positive (number_at above (b ∷ bs))) ≡ Some (z, rest) → IsBetween below above z × (signed_decimal z ++ rest ≡ b ∷ bs)
signed_by below above b bs lo hi z rest true e h = rw (eqb-true b 45 e) (negative_of below lo bs (number_at below bs) z rest refl h above)
signed_by below above b bs lo hi z rest false e h = positive_of above hi (b ∷ bs) (number_at above (b ∷ bs)) z rest refl h below

pub signed_sound : (below above : ℕ) → below < 2 ^ 64 → above < 2 ^ 64 → (list : List ℕ) (z : ℤ) (rest : List ℕ) → signed_at below above list ≡ Some (z, rest) → IsBetween below above z × (signed_decimal z ++ rest ≡ list)
unfolding signed_at
signed_sound below above lo hi [] z rest e = absurd cc
signed_sound below above lo hi (b ∷ bs) z rest e = signed_by below above b bs lo hi z rest (b == 45) refl e

minus_no : is_digit 45 ≡ true → ⊥
unfolding is_digit
minus_no e = cc

-- no number begins with its sign
no_sign : (n : ℕ) (rest : List ℕ) → n < 2 ^ 64 → (ds : List ℕ) → ds ≡ decimal n → list_all is_digit ds ≡ true → 0 < length ds → (below above : ℕ) → positive (number_at above (ds ++ rest)) ≡ Some (pos n, rest) → signed_at below above (ds ++ rest) ≡ Some (pos n, rest)
unfolding signed_at
no_sign n rest low [] e all some below above h = absurd (omega (arith, some))
no_sign n rest low (d ∷ ds) e all some below above h =
    let parts = and_parts (is_digit d) (list_all is_digit ds) all in
    digit_first below above d (ds ++ rest) (d == 45) refl parts.0 (Some (pos n, rest)) h
  where
    digit_first : (below above d : ℕ) (list : List ℕ) (x : Bool) → (d == 45) ≡ x → is_digit d ≡ true → (r : Option (ℤ × List ℕ)) → positive (number_at above (d ∷ list)) ≡ r → cond x (negative (number_at below list)) (positive (number_at above (d ∷ list))) ≡ r
    digit_first below above d list true e digit r h = absurd (let k : is_digit 45 ≡ true = ap is_digit (sym (eqb-true d 45 e)) ∙ digit in minus_no k)
    digit_first below above d list false e digit r h = h

pub signed_complete : (below above : ℕ) → below < 2 ^ 64 → above < 2 ^ 64 → (z : ℤ) (rest : List ℕ) → IsBetween below above z → apart rest ≡ true → signed_at below above (signed_decimal z ++ rest) ≡ Some (z, rest)
unfolding signed_at
signed_complete below above lo hi (pos n) rest w e =
    let low : n < 2 ^ 64 = omega (arith, w, hi) in
    no_sign n rest low (decimal n) refl (digits_decimal own n low) (decimal_nonempty n low) below above (ap positive (number_complete above hi n rest w e))
signed_complete below above lo hi (negsuc n) rest w e = ap negative (number_complete below lo (suc n) rest (omega (arith, w)) e)

-- ---- no LF in numbers

lf_no : is_digit 10 ≡ true → ⊥
unfolding is_digit
lf_no e = cc

digits_inner : (ds : List ℕ) → list_all is_digit ds ≡ true → list_all is_inner ds ≡ true
digits_inner [] h = refl
digits_inner (d ∷ ds) h =
    let parts = and_parts (is_digit d) (list_all is_digit ds) h in
    rw (digit_inner d (d == 10) refl parts.0) (digits_inner ds parts.1)
  where
    digit_inner : (d : ℕ) (x : Bool) → (d == 10) ≡ x → is_digit d ≡ true → (d == 10) ≡ false
    digit_inner d true e h = absurd (lf_no (ap is_digit (sym (eqb-true d 10 e)) ∙ h))
    digit_inner d false e h = e

pub decimal_inner : (n : ℕ) → n < 2 ^ 64 → list_all is_inner (decimal n) ≡ true
decimal_inner n low = digits_inner (decimal n) (digits_decimal own n low)

pub signed_inner : (below above : ℕ) → below < 2 ^ 64 → above < 2 ^ 64 → (z : ℤ) → IsBetween below above z → list_all is_inner (signed_decimal z) ≡ true
signed_inner below above lo hi (pos n) b = decimal_inner n (omega (arith, b, hi))
signed_inner below above lo hi (negsuc n) b = decimal_inner (suc n) (omega (arith, b, lo))
