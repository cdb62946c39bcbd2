-- Whole numbers of 128 bits that are read are those that are written.
use Rattle.std.proofs.Common.{◌≡◌, ℕ, zero, suc, ◌+◌, ◌-◌, ◌*◌, ◌/◌, ◌%◌, ◌^◌, ◌<◌, ◌≤◌, Bool, true, false, cond, List, [], ◌∷◌, ◌++◌, Option, Some, None, refl, sym, ap, subst, ◌∙◌, arith, append_assoc}
use Rattle.std.specs.Prelude.{◌==◌, nat_le, not, ℤ, pos, negsuc, decimal}
use Rattle.std.specs.Fmt.{signed_decimal}
use Rattle.std.proofs.lemmas.Bool.{eqb-true, eqb-false, ne_eqb, le-leb, leb-true, and_parts}
use Rattle.std.proofs.lemmas.Fmt.{decimal_digit, decimal_step_wide, decimal_by_steps_wide}
use Rattle.js_units.specs.Characters.{is_digit}
use Rattle.js_units.proofs.Reading.{same_read}
use Rattle.proof_text.specs.Numbers.{IsBetween, digits_on, number_at, not_zero}
use Rattle.report_text.specs.Terms.{behind, int_at}
use Rattle.report_text.proofs.ReadParts.{Apart}
use Rattle.report_text.proofs.Inner.{Inner, both}

digit_range : (b : ℕ) → is_digit b ≡ true → (48 ≤ b) × (b ≤ 57)
unfolding is_digit
digit_range b e = let k = and_parts (nat_le 48 b) (nat_le b 57) e in (leb-true 48 b k.0, leb-true b 57 k.1)

range_digit : (b : ℕ) → 48 ≤ b → b ≤ 57 → is_digit b ≡ true
unfolding is_digit
range_digit b h k = rw (le-leb 48 b h, le-leb b 57 k) refl

-- ---- what is read

-- one digit more
next : (n b : ℕ) → 1 ≤ n → is_digit b ≡ true → n * 10 + (b - 48) < 10 ^ 64 → decimal (n * 10 + (b - 48)) ≡ decimal n ++ b ∷ []
next n b h e low =
    let d = digit_range b e in
    let front : (n * 10 + (b - 48)) / 10 ≡ n = omega (arith, d.0, d.1) in
    let last : 48 + (n * 10 + (b - 48)) % 10 ≡ b = omega (arith, d.0, d.1) in
    decimal_step_wide (n * 10 + (b - 48)) (omega (arith, h)) low ∙ ap (λ (q : ℕ). decimal q ++ (48 + (n * 10 + (b - 48)) % 10) ∷ []) front ∙ ap (λ (q : ℕ). decimal n ++ q ∷ []) last

on_by : (most n b : ℕ) (bs : List ℕ) (m : ℕ) (rest : List ℕ) → most < 10 ^ 64 → 1 ≤ n → n ≤ most → (x y : Bool) → is_digit b ≡ x → nat_le (n * 10 + (b - 48)) most ≡ y → cond x (cond y (digits_on most (n * 10 + (b - 48)) bs) None) (Some (n, b ∷ bs)) ≡ Some (m, rest)
    → (n * 10 + (b - 48) ≤ most → digits_on most (n * 10 + (b - 48)) bs ≡ Some (m, rest) → (m ≤ most) × (decimal m ++ rest ≡ decimal (n * 10 + (b - 48)) ++ bs))
    → (m ≤ most) × (decimal m ++ rest ≡ decimal n ++ b ∷ bs)
on_by most n b bs m rest low h w true true e k f go =
    let within = leb-true (n * 10 + (b - 48)) most k in
    let more = go within f in
    (more.0, more.1 ∙ ap (λ (q : List ℕ). q ++ bs) (next n b h e (omega (arith, within, low))) ∙ append_assoc (decimal n) (b ∷ []) bs)
on_by most n b bs m rest low h w true false e k f go = absurd cc
on_by most n b bs m rest low h w false y e k f go =
    let same = same_read n m (b ∷ bs) rest f in
    (subst (λ (q : ℕ). q ≤ most) same.0 w, rw (← same.0, ← same.1) refl)

on_sound : (most n : ℕ) (list : List ℕ) (m : ℕ) (rest : List ℕ) → most < 10 ^ 64 → 1 ≤ n → n ≤ most → digits_on most n list ≡ Some (m, rest) → (m ≤ most) × (decimal m ++ rest ≡ decimal n ++ list)
on_sound most n [] m rest low h w f =
    let same = same_read n m [] rest f in
    (subst (λ (q : ℕ). q ≤ most) same.0 w, rw (← same.0, ← same.1) refl)
on_sound most n (b ∷ bs) m rest low h w f =
    on_by most n b bs m rest low h w (is_digit b) (nat_le (n * 10 + (b - 48)) most) refl refl f (λ v g. on_sound most (n * 10 + (b - 48)) bs m rest low (omega (arith, h)) v g)

first_by : (most b : ℕ) (bs : List ℕ) (m : ℕ) (rest : List ℕ) → most < 10 ^ 64 → 49 ≤ b → b ≤ 57 → (y : Bool) → nat_le (0 * 10 + (b - 48)) most ≡ y → cond y (digits_on most (0 * 10 + (b - 48)) bs) None ≡ Some (m, rest) → (m ≤ most) × (decimal m ++ rest ≡ b ∷ bs)
first_by most b bs m rest low h w false k f = absurd cc
first_by most b bs m rest low h w true k f =
    let one : 0 * 10 + (b - 48) ≡ b - 48 = omega arith in
    let back : 48 + (b - 48) ≡ b = omega (arith, h) in
    let more = on_sound most (0 * 10 + (b - 48)) bs m rest low (omega (arith, h)) (leb-true (0 * 10 + (b - 48)) most k) f in
    (more.0, more.1 ∙ ap (λ (q : ℕ). decimal q ++ bs) one ∙ ap (λ (q : List ℕ). q ++ bs) (decimal_digit (b - 48) (omega (arith, h, w))) ∙ ap (λ (q : ℕ). q ∷ bs) back)

number_by : (most b : ℕ) (bs : List ℕ) (m : ℕ) (rest : List ℕ) → most < 10 ^ 64 → (x y : Bool) → (b == 48) ≡ x → is_digit b ≡ y → cond x (Some (0, bs)) (cond y (digits_on most 0 (b ∷ bs)) None) ≡ Some (m, rest) → (m ≤ most) × (decimal m ++ rest ≡ b ∷ bs)
number_by most b bs m rest low true y h k e =
    let same = same_read 0 m bs rest e in
    (omega (arith, same.0), rw (← same.0, ← same.1, decimal_digit 0 (omega arith), eqb-true b 48 h) refl)
number_by most b bs m rest low false true h k e =
    let d = digit_range b k in
    let some : 49 ≤ b = above b (eqb-false b 48 h) d.0 in
    first_by most b bs m rest low some d.1 (nat_le (0 * 10 + (b - 48)) most) refl
    (sym (ap (λ (x : Bool). cond x (cond (nat_le (0 * 10 + (b - 48)) most) (digits_on most (0 * 10 + (b - 48)) bs) None) (Some (0, b ∷ bs))) k) ∙ e)
  where
    above : (b : ℕ) → (b ≡ 48 → ⊥) → 48 ≤ b → 49 ≤ b
    above b h k = omega (arith, h, k)
number_by most b bs m rest low false false h k e = absurd cc

wide_sound : (most : ℕ) → most < 10 ^ 64 → (list : List ℕ) (m : ℕ) (rest : List ℕ) → number_at most list ≡ Some (m, rest) → (m ≤ most) × (decimal m ++ rest ≡ list)
unfolding number_at
wide_sound most low [] m rest e = absurd cc
wide_sound most low (b ∷ bs) m rest e = number_by most b bs m rest low (b == 48) (is_digit b) refl refl e

-- ---- what is written

stops : (most n : ℕ) (rest : List ℕ) → Apart rest → digits_on most n rest ≡ Some (n, rest)
stops most n [] e = refl
stops most n (b ∷ bs) e = rw (stop (is_digit b) e) refl
  where
    stop : (x : Bool) → not x ≡ true → x ≡ false
    stop true k = absurd cc
    stop false k = refl

-- a digit is read on
digit_on : (most n d : ℕ) (tail : List ℕ) → d < 10 → n * 10 + d ≤ most → digits_on most n ((48 + d) ∷ tail) ≡ digits_on most (n * 10 + d) tail
digit_on most n d tail h w =
    let same : n * 10 + (48 + d - 48) ≡ n * 10 + d = omega arith in
    rw (range_digit (48 + d) (omega arith) (omega (arith, h)), le-leb (n * 10 + (48 + d - 48)) most (omega (arith, w, same)))
    (ap (λ (q : ℕ). digits_on most q tail) same)

record IsWritten (most n : ℕ) (ds : List ℕ) : Type 0 where
  first : ℕ
  others : List ℕ
  ds_is : ds ≡ first ∷ others
  low : 49 ≤ first
  high : first ≤ 57
  reads : (tail : List ℕ) → digits_on most 0 (ds ++ tail) ≡ digits_on most n tail

one_written : (most n : ℕ) → n < 10 → 1 ≤ n → n ≤ most → IsWritten most n ((48 + n) ∷ [])
one_written most n h m w = record {
  first = 48 + n;
  others = [];
  ds_is = refl;
  low = omega (arith, m);
  high = omega (arith, h);
  reads = λ tail. digit_on most 0 n tail h (omega (arith, w)) ∙ ap (λ (q : ℕ). digits_on most q tail) (zero_add n);
}
  where
    zero_add : (n : ℕ) → 0 * 10 + n ≡ n
    zero_add n = omega arith

more_written : (most n : ℕ) (ds : List ℕ) → 10 ≤ n → n ≤ most → IsWritten most (n / 10) ds → IsWritten most n (ds ++ (48 + n % 10) ∷ [])
more_written most n ds h w p =
    let whole : n / 10 * 10 + n % 10 ≡ n = omega arith in record {
      first = p.first;
      others = p.others ++ (48 + n % 10) ∷ [];
      ds_is = ap (λ (q : List ℕ). q ++ (48 + n % 10) ∷ []) p.ds_is;
      low = p.low;
      high = p.high;
      reads = λ tail.
          ap (digits_on most 0) (append_assoc ds ((48 + n % 10) ∷ []) tail)
          ∙ p.reads ((48 + n % 10) ∷ tail)
          ∙ digit_on most (n / 10) (n % 10) tail (omega arith) (omega (arith, w, whole))
          ∙ ap (λ (q : ℕ). digits_on most q tail) whole;
    }

written : (most n : ℕ) → n < 10 ^ 64 → 1 ≤ n → n ≤ most → IsWritten most n (decimal n)
written most n low h w =
    decimal_by_steps_wide (λ n ds. 1 ≤ n → n ≤ most → IsWritten most n ds) (λ n l m v. one_written most n l m v)
    (λ n ds l p m v. more_written most n ds l v (p (omega (arith, l)) (omega (arith, v))))
    n low h w

pick : (x y : Bool) (p q r : Option (ℕ × List ℕ)) → x ≡ false → y ≡ true → cond x p (cond y q r) ≡ q
pick true y p q r e h = absurd cc
pick false true p q r e h = refl
pick false false p q r e h = absurd cc

read_first : (most n : ℕ) (ds rest : List ℕ) → IsWritten most n ds → Apart rest → number_at most (ds ++ rest) ≡ Some (n, rest)
unfolding number_at
read_first most n [] rest w a = let k = w.ds_is in absurd cc
read_first most n (d ∷ ds) rest w a =
    let same : d ≡ w.first = head_same d w.first ds w.others w.ds_is in
    pick (d == 48) (is_digit d) (Some (0, ds ++ rest)) (digits_on most 0 (d ∷ ds ++ rest)) None (ne_eqb d 48 (λ e. not_low d w.first same w.low e)) (range_digit d (omega (arith, same, w.low)) (omega (arith, same, w.high)))
    ∙ w.reads rest ∙ stops most n rest a
  where
    head_same : (a b : ℕ) (x y : List ℕ) → a ∷ x ≡ b ∷ y → a ≡ b
    head_same a b x y e = cc

    not_low : (d f : ℕ) → d ≡ f → 49 ≤ f → d ≡ 48 → ⊥
    not_low d f e h k = omega (arith, e, h, k)

zero_read : (most : ℕ) (rest : List ℕ) → number_at most (48 ∷ rest) ≡ Some (0, rest)
unfolding number_at
zero_read most rest = refl

wide_complete : (most : ℕ) → most < 10 ^ 64 → (n : ℕ) (rest : List ℕ) → n ≤ most → Apart rest → number_at most (decimal n ++ rest) ≡ Some (n, rest)
wide_complete most low zero rest w a = rw (decimal_digit 0 (omega arith)) (zero_read most rest)
wide_complete most low (suc n) rest w a = read_first most (suc n) (decimal (suc n)) rest (written most (suc n) (omega (arith, w, low)) (omega arith) w) a

-- ---- no LF in it

wide_inner : (n : ℕ) → n < 10 ^ 64 → Inner (decimal n)
wide_inner n low =
    decimal_by_steps_wide (λ n ds. Inner ds) (λ n h. digit_inner n)
    (λ n ds h p. both ds ((48 + n % 10) ∷ []) p (digit_inner (n % 10)))
    n low
  where
    digit_inner : (d : ℕ) → Inner ((48 + d) ∷ [])
    digit_inner d = rw (ne_eqb (48 + d) 10 (λ e. omega (arith, e))) refl

-- ---- with a sign

abbrev pub IsInt : ℤ → Type 0
IsInt z = IsBetween (2 ^ 127) (2 ^ 127 - 1) z

negative_by : (bs rest : List ℕ) (o : Option (ℕ × List ℕ)) → number_at (2 ^ 127) bs ≡ o → behind (not_zero o) ≡ Some rest → (z : ℤ) × IsInt z × (signed_decimal z ++ rest ≡ 45 ∷ bs)
negative_by bs rest None e h = absurd cc
negative_by bs rest (Some (zero, r)) e h = absurd cc
negative_by bs rest (Some (suc n, r)) e h =
    let k = wide_sound (2 ^ 127) (omega arith) bs (suc n) r e in
    let same : r ≡ rest = cc in
    (negsuc n, omega (arith, k.0), ap (λ (q : List ℕ). 45 ∷ q) (ap (λ (q : List ℕ). decimal (suc n) ++ q) (sym same) ∙ k.1))

positive_by : (list rest : List ℕ) (o : Option (ℕ × List ℕ)) → number_at (2 ^ 127 - 1) list ≡ o → behind o ≡ Some rest → (z : ℤ) × IsInt z × (signed_decimal z ++ rest ≡ list)
positive_by list rest None e h = absurd cc
positive_by list rest (Some (n, r)) e h =
    let k = wide_sound (2 ^ 127 - 1) (omega arith) list n r e in
    let same : r ≡ rest = cc in
    (pos n, k.0, ap (λ (q : List ℕ). decimal n ++ q) (sym same) ∙ k.1)

int_by : (b : ℕ) (bs rest : List ℕ) (x : Bool) → (b == 45) ≡ x → cond x (behind (not_zero (number_at (2 ^ 127) bs))) (behind (number_at (2 ^ 127 - 1) (b ∷ bs))) ≡ Some rest → (z : ℤ) × IsInt z × (signed_decimal z ++ rest ≡ b ∷ bs)
int_by b bs rest true e h = rw (eqb-true b 45 e) (negative_by bs rest (number_at (2 ^ 127) bs) refl h)
int_by b bs rest false e h = positive_by (b ∷ bs) rest (number_at (2 ^ 127 - 1) (b ∷ bs)) refl h

pub int_sound : (list rest : List ℕ) → int_at list ≡ Some rest → (z : ℤ) × IsInt z × (signed_decimal z ++ rest ≡ list)
unfolding int_at
int_sound [] rest e = absurd cc
int_sound (b ∷ bs) rest e = int_by b bs rest (b == 45) refl e

minus_no : (bs : List ℕ) (m : ℕ) (rest : List ℕ) → number_at (2 ^ 127 - 1) (45 ∷ bs) ≡ Some (m, rest) → ⊥
unfolding number_at is_digit
minus_no bs m rest e = cc

empty_no : (m : ℕ) (rest : List ℕ) → number_at (2 ^ 127 - 1) [] ≡ Some (m, rest) → ⊥
unfolding number_at
empty_no m rest e = cc

-- no number begins with its sign
positive_read : (n : ℕ) (list rest : List ℕ) → number_at (2 ^ 127 - 1) list ≡ Some (n, rest) → int_at list ≡ Some rest
unfolding int_at
positive_read n [] rest e = absurd (empty_no n rest e)
positive_read n (b ∷ bs) rest e = by (b == 45) refl
  where
    by : (x : Bool) → (b == 45) ≡ x → cond x (behind (not_zero (number_at (2 ^ 127) bs))) (behind (number_at (2 ^ 127 - 1) (b ∷ bs))) ≡ Some rest
    by true h = absurd (minus_no bs n rest (ap (λ (q : ℕ). number_at (2 ^ 127 - 1) (q ∷ bs)) (sym (eqb-true b 45 h)) ∙ e))
    by false h = ap behind e

pub int_complete : (z : ℤ) (rest : List ℕ) → IsInt z → Apart rest → int_at (signed_decimal z ++ rest) ≡ Some rest
unfolding int_at
int_complete (pos n) rest s a = positive_read n (decimal n ++ rest) rest (wide_complete (2 ^ 127 - 1) (omega arith) n rest s a)
int_complete (negsuc n) rest s a = ap (λ (o : Option (ℕ × List ℕ)). behind (not_zero o)) (wide_complete (2 ^ 127) (omega arith) (suc n) rest (omega (arith, s)) a)

pub int_inner : (z : ℤ) → IsInt z → Inner (signed_decimal z)
int_inner (pos n) s = wide_inner n (omega (arith, s))
int_inner (negsuc n) s = wide_inner (suc n) (omega (arith, s))
