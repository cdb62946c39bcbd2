-- Numbers: what is read is the longest lexeme.
use Rattle.std.proofs.Common.{◌≡◌, ℕ, ◌≤◌, ◌<◌, Bool, true, false, cond, List, [], ◌∷◌, ◌++◌, length, Option, Some, None, refl, sym, ap, subst, ◌∙◌, arith, inl, inr, length-append}
use Rattle.std.specs.Prelude.{◌||◌, ◌&&◌, ◌==◌, nat_le}
use Rattle.std.specs.Option.{option_map}
use Rattle.std.specs.List.{list_all}
use Rattle.std.proofs.lemmas.Bool.{eqb-true, and_parts, ne_eqb, leb-true}
use Rattle.js_units.specs.Characters.{is_digit, is_hexadecimal, is_name_start, is_name_part, is_letter}
use Rattle.js_lexer.specs.Classes.{continues_number}
use Rattle.js_lexer.specs.Runs.{starts, IsRun, skip_while}
use Rattle.js_lexer.specs.Numbers.{is_digit_of, value_from, leads_with_zero, IsNumeral, IsDecimal, IsHexadecimal, max_safe}
use Rattle.js_lexer.specs.Digits.{capped, capped_from, digits_at, after_prefix, number_by, number_at}
use Rattle.js_lexer.specs.Lexemes.{Spells}
use Rattle.js_lexer.specs.Words.{Found, number_kind, numeral_at}
use Rattle.js_lexer.specs.Reading.{Reads}
use Rattle.js_lexer.specs.declared.numbers.Base.{Base}
use Rattle.js_lexer.specs.declared.numbers.Base.TheVariants as base
use Rattle.js_lexer.specs.declared.token.Goal.{Goal}
use Rattle.js_lexer.specs.declared.token.TokenKind.TheVariants as k
use Rattle.js_lexer.specs.declared.token.Lexeme.{Lexeme}
use Rattle.js_lexer.specs.declared.token.Lexeme.TheVariants as lexeme
use Rattle.js_lexer.specs.declared.lexer.Family.TheVariants as family
use Rattle.js_lexer.proofs.Spans.{run_of, run_only}
use Rattle.js_lexer.proofs.Numerals.{capped_is}
use Rattle.js_lexer.proofs.Families.{family_at, spelt_family}

-- ---- digits

-- digits, and what they stand for
record IsDigits (b : Base) (units : List ℕ) (r : ℕ × List ℕ) : Type 0 where
  digits : List ℕ
  units_are : units ≡ digits ++ r.1
  some : 0 < length digits
  all : list_all (is_digit_of b) digits ≡ true
  value_is : r.0 ≡ capped (value_from b 0 digits)
  ends : starts continues_number r.1 ≡ false

digits_some : (units run rest : List ℕ) → units ≡ run ++ rest → (length rest == length units) ≡ false → 0 < length run
digits_some units [] rest e apart = absurd (let same = ap length (sym e) in let other : (length rest == length units) ≡ true = rw same (grind arith) in cc)
digits_some units (u ∷ run) rest e apart = omega arith

digits_cases : (b : Base) (units : List ℕ) (r : ℕ × List ℕ) (x y : Bool) → (length (skip_while (is_digit_of b) units) == length units) ≡ x → starts continues_number (skip_while (is_digit_of b) units) ≡ y → cond x None (cond y None (Some (capped_from b 0 units, skip_while (is_digit_of b) units))) ≡ Some r → IsDigits b units r
digits_cases b units r true y ex ey e = absurd cc
digits_cases b units r false true ex ey e = absurd cc
digits_cases b units r false false ex ey e =
    let run = run_of (is_digit_of b) units in
    let here : IsDigits b units (capped_from b 0 units, skip_while (is_digit_of b) units) = record {
      digits = run.0;
      units_are = run.1.units_are;
      some = digits_some units run.0 (skip_while (is_digit_of b) units) run.1.units_are ex;
      all = run.1.all;
      value_is = capped_is b units run.0 (skip_while (is_digit_of b) units) run.1;
      ends = ey;
    } in
    let same : (capped_from b 0 units, skip_while (is_digit_of b) units) ≡ r = cc in
    subst (λ (q : ℕ × List ℕ). IsDigits b units q) same here

digits_of : (b : Base) (units : List ℕ) (r : ℕ × List ℕ) → digits_at b units ≡ Some r → IsDigits b units r
unfolding digits_at
digits_of b units r e = digits_cases b units r (length (skip_while (is_digit_of b) units) == length units) (starts continues_number (skip_while (is_digit_of b) units)) refl refl e

hexadecimal_part : (u : ℕ) → is_hexadecimal u ≡ true → is_name_part u ≡ true
unfolding is_hexadecimal is_name_part is_name_start is_letter is_digit
hexadecimal_part u e = grind arith

digit_part : (u : ℕ) → is_digit u ≡ true → is_name_part u ≡ true
unfolding is_name_part
digit_part u e = by (is_name_start u) e
  where
    by : (x : Bool) → is_digit u ≡ true → (x || is_digit u) ≡ true
    by true f = refl
    by false f = f

digit_continues : (b : Base) (u : ℕ) → is_digit_of b u ≡ true → continues_number u ≡ true
unfolding continues_number
digit_continues base.Decimal u e = rw (digit_part u e) refl
digit_continues base.Hexadecimal u e = rw (hexadecimal_part u e) refl

digits_end : (b : Base) (rest : List ℕ) → starts continues_number rest ≡ false → starts (is_digit_of b) rest ≡ false
digits_end b [] e = refl
digits_end b (u ∷ us) e = by (is_digit_of b u) refl
  where
    by : (x : Bool) → is_digit_of b u ≡ x → x ≡ false
    by true f = absurd (let other = digit_continues b u f in cc)
    by false f = refl

digits_only : (b : Base) (units digits rest : List ℕ) → units ≡ digits ++ rest → 0 < length digits → list_all (is_digit_of b) digits ≡ true → starts continues_number rest ≡ false → digits_at b units ≡ Some (capped (value_from b 0 digits), rest)
unfolding digits_at
digits_only b units digits rest e some all ends =
    let run : IsRun (is_digit_of b) units digits rest = record { units_are = e; all = all; ends = digits_end b rest ends } in
    let apart : (length rest == length units) ≡ false = ne_eqb (length rest) (length units) (λ same. omega (arith, ap length e, length-append digits rest)) in
    rw (run_only (is_digit_of b) units digits rest run) (rw (apart, ends) (ap (λ q. Some (q, rest)) (capped_is b units digits rest run)))

-- ---- the prefix

record IsPrefix (units digits : List ℕ) : Type 0 where
  x : ℕ
  is_x : (x == 120 || x == 88) ≡ true
  units_are : units ≡ 48 ∷ x ∷ digits

prefix_of : (units digits : List ℕ) → after_prefix units ≡ Some digits → IsPrefix units digits
prefix_of [] digits e = absurd cc
prefix_of (u ∷ []) digits e = absurd cc
prefix_of (u ∷ v ∷ us) digits e = by (u == 48) (v == 120 || v == 88) refl refl e
  where
    by : (x y : Bool) → (u == 48) ≡ x → (v == 120 || v == 88) ≡ y → cond (x && y) (Some us) None ≡ Some digits → IsPrefix (u ∷ v ∷ us) digits
    by true true ex ey f = let head = eqb-true u 48 ex in let tail : us ≡ digits = cc in record { x = v; is_x = ey; units_are = λ i. head i ∷ v ∷ tail i }
    by true false ex ey f = absurd cc
    by false y ex ey f = absurd cc

prefix_only : (x : ℕ) (digits : List ℕ) → (x == 120 || x == 88) ≡ true → after_prefix (48 ∷ x ∷ digits) ≡ Some digits
prefix_only x digits e = rw e refl

x_units : (x : ℕ) → (x == 120 || x == 88) ≡ true → (continues_number x ≡ true) × (is_digit x ≡ false)
unfolding continues_number is_name_part is_name_start is_letter is_digit
x_units x e = (grind (arith, eqb-true), grind (arith, eqb-true))

-- no decimal number goes on with an x
decimal_apart : (digits rest us : List ℕ) (x : ℕ) → (x == 120 || x == 88) ≡ true → digits ++ rest ≡ 48 ∷ x ∷ us → 0 < length digits → list_all is_digit digits ≡ true → starts continues_number rest ≡ false → ⊥
decimal_apart [] rest us x ex e some all ends = omega arith
decimal_apart (d ∷ []) rest us x ex e some all ends =
    let tail : rest ≡ x ∷ us = cc in
    let yes' = (x_units x ex).0 in
    let other : starts continues_number rest ≡ continues_number x = ap (starts continues_number) tail in
    absurd cc
decimal_apart (d ∷ f ∷ digits) rest us x ex e some all ends =
    let head : f ≡ x = cc in
    let parts = and_parts (is_digit d) (list_all is_digit (f ∷ digits)) all in
    let here = (and_parts (is_digit f) (list_all is_digit digits) parts.1).0 in
    let none = (x_units x ex).1 in
    let other : is_digit f ≡ is_digit x = ap is_digit head in
    absurd cc

-- ---- numbers

-- a number, and its capped value
pub record IsValued (units : List ℕ) (r : ℕ × List ℕ) : Type 0 where
  pub value : ℕ
  pub numeral : IsNumeral units value r.1
  pub value_is : r.0 ≡ capped value

number_cases : (units : List ℕ) (r : ℕ × List ℕ) (p : Option (List ℕ)) (z : Bool) → after_prefix units ≡ p → leads_with_zero units ≡ z → number_by units p ≡ Some r → IsValued units r
number_cases units r (Some digits) z ep ez e =
    let d = digits_of base.Hexadecimal digits r e in
    let x = prefix_of units digits ep in
    record {
      value = value_from base.Hexadecimal 0 d.digits;
      numeral = record {
        spelt = inr (record { x = x.x; digits = d.digits; is_x = x.is_x; units_are = x.units_are ∙ ap (λ q. 48 ∷ x.x ∷ q) d.units_are; some = d.some; all = d.all; value_is = refl });
        ends = d.ends;
      };
      value_is = d.value_is;
    }
number_cases units r None true ep ez e = absurd (let f : cond (leads_with_zero units) None (digits_at base.Decimal units) ≡ None = rw ez refl in cc)
number_cases units r None false ep ez e =
    let f : digits_at base.Decimal units ≡ cond (leads_with_zero units) None (digits_at base.Decimal units) = rw ez refl in
    let d = digits_of base.Decimal units r (f ∙ e) in
    record {
      value = value_from base.Decimal 0 d.digits;
      numeral = record {
        spelt = inl (record { digits = d.digits; units_are = d.units_are; some = d.some; all = d.all; no_zero = ez; value_is = refl });
        ends = d.ends;
      };
      value_is = d.value_is;
    }

pub number_of : (units : List ℕ) (r : ℕ × List ℕ) → number_at units ≡ Some r → IsValued units r
unfolding number_at
number_of units r e = number_cases units r (after_prefix units) (leads_with_zero units) refl refl e

hexadecimal_only : (units : List ℕ) (value : ℕ) (rest : List ℕ) → IsHexadecimal units value rest → starts continues_number rest ≡ false → number_at units ≡ Some (capped value, rest)
unfolding number_at
hexadecimal_only units value rest h ends =
    ap (λ q. number_by units (after_prefix q)) h.units_are
    ∙ ap (number_by units) (prefix_only h.x (h.digits ++ rest) h.is_x)
    ∙ digits_only base.Hexadecimal (h.digits ++ rest) h.digits rest refl h.some h.all ends
    ∙ ap (λ q. Some (capped q, rest)) (sym h.value_is)

decimal_only : (units : List ℕ) (value : ℕ) (rest : List ℕ) (p : Option (List ℕ)) → after_prefix units ≡ p → IsDecimal units value rest → starts continues_number rest ≡ false → number_by units p ≡ Some (capped value, rest)
decimal_only units value rest (Some us) ep h ends = absurd (let x = prefix_of units us ep in decimal_apart h.digits rest us x.x x.is_x (sym h.units_are ∙ x.units_are) h.some h.all ends)
decimal_only units value rest None ep h ends =
    rw h.no_zero (digits_only base.Decimal units h.digits rest h.units_are h.some h.all ends ∙ ap (λ q. Some (capped q, rest)) (sym h.value_is))

number_decimal : (units : List ℕ) (value : ℕ) (rest : List ℕ) → IsDecimal units value rest → starts continues_number rest ≡ false → number_at units ≡ Some (capped value, rest)
unfolding number_at
number_decimal units value rest h ends = decimal_only units value rest (after_prefix units) refl h ends

pub number_only : (units : List ℕ) (value : ℕ) (rest : List ℕ) → IsNumeral units value rest → number_at units ≡ Some (capped value, rest)
number_only units value rest h = elim h.spelt [ inl d ↦ number_decimal units value rest d h.ends | inr x ↦ hexadecimal_only units value rest x h.ends ]

-- ---- the kind

kind_small : (value : ℕ) → value ≤ max_safe → number_kind (capped value) ≡ lexeme.Token k.Number
kind_small value h = let low : nat_le (capped value) max_safe ≡ true = grind arith in rw low refl

kind_wide : (value : ℕ) → max_safe < value → number_kind (capped value) ≡ lexeme.Token k.WideNumber
kind_wide value h = let high : nat_le (capped value) max_safe ≡ false = grind arith in rw high refl

numeral_spelt : (g : Goal) (s : Bool) (units : List ℕ) (value : ℕ) (rest : List ℕ) (x : Bool) → nat_le (capped value) max_safe ≡ x → IsNumeral units value rest → Spells g s (cond x (lexeme.Token k.Number) (lexeme.Token k.WideNumber)) units rest
numeral_spelt g s units value rest true e h = (value, h, let low = leb-true (capped value) max_safe e in omega arith)
numeral_spelt g s units value rest false e h = (value, h, grind arith)

-- a number that is spelt is the one that is read
numeral_read : (g : Goal) (s : Bool) (x : Lexeme) (units rest : List ℕ) → family_at g units ≡ Some family.Number → Spells g s x units rest → numeral_at units ≡ Some (x, rest)
unfolding numeral_at
numeral_read g s (lexeme.Token k.Number) units rest f q = ap (option_map (λ w. (number_kind w.0, w.1))) (number_only units q.0 rest q.1) ∙ ap (λ w. Some (w, rest)) (kind_small q.0 q.2)
numeral_read g s (lexeme.Token k.WideNumber) units rest f q = ap (option_map (λ w. (number_kind w.0, w.1))) (number_only units q.0 rest q.1) ∙ ap (λ w. Some (w, rest)) (kind_wide q.0 q.2)
numeral_read g s x units rest f q = absurd (let d = spelt_family g s x units rest q in cc)

numeral_by : (g : Goal) (s : Bool) (units : List ℕ) (x : Found) (r : Option (ℕ × List ℕ)) → number_at units ≡ r → option_map (λ w. (number_kind w.0, w.1)) r ≡ Some x → Spells g s x.0 units x.1
numeral_by g s units x (Some r) e f =
    let v = number_of units r e in
    let here = numeral_spelt g s units v.value r.1 (nat_le (capped v.value) max_safe) refl v.numeral in
    let same : (number_kind (capped v.value), r.1) ≡ x = let w = v.value_is in cc in
    subst (λ (q : Found). Spells g s q.0 units q.1) same here
numeral_by g s units x None e f = absurd cc

numeral_of : (g : Goal) (s : Bool) (units : List ℕ) (x : Found) → numeral_at units ≡ Some x → Spells g s x.0 units x.1
unfolding numeral_at
numeral_of g s units x e = numeral_by g s units x (number_at units) refl e

same_found : (x y : Found) → Some x ≡ Some y → (x.0 ≡ y.0) × (x.1 ≡ y.1)
same_found x y e = (cc, cc)

pub reads_number : (g : Goal) (s : Bool) (units : List ℕ) (r : Option Found) → family_at g units ≡ Some family.Number → r ≡ numeral_at units → Reads g s units r
reads_number g s units (Some x) f e = record {
  spelt = numeral_of g s units x (sym e);
  others = λ other behind q. inr (same_found (other, behind) x (sym (numeral_read g s other units behind f q) ∙ sym e));
}
reads_number g s units None f e = λ x rest q. let some = numeral_read g s x units rest f q in absurd cc
