-- Texts, character by character: what is read is what is spelt.
use Rattle.std.proofs.Common.{◌≡◌, ℕ, ◌+◌, ◌*◌, ◌≤◌, ◌<◌, Bool, true, false, cond, List, [], ◌∷◌, ◌++◌, length, Some, None, refl, sym, ap, subst, ◌∙◌, arith}
use Rattle.std.specs.Prelude.{◌||◌, ◌&&◌, ◌==◌, not, nat_le}
use Rattle.std.specs.List.{list_all}
use Rattle.std.proofs.lemmas.Bool.{eqb-true, and_parts}
use Rattle.js_units.specs.CodeUnits.{encode}
use Rattle.js_units.specs.Characters.{is_line_end, is_digit, is_hexadecimal, digit_value}
use Rattle.js_lexer.specs.Runs.{starts, IsRun, skip_while}
use Rattle.js_lexer.specs.Numbers.{is_digit_of, value_from}
use Rattle.js_lexer.specs.Digits.{capped, capped_from}
use Rattle.js_lexer.specs.Texts.{escaped, is_escaped, is_cr_lf, IsEscape, escape_character, escape_zero, escape_byte, escape_unit, escape_point, escape_cr_lf, escape_line_end, is_plain, IsCharacter, character_plain, character_escape}
use Rattle.js_lexer.specs.Escapes.{Read, byte_at, unit_at, point_by, point_at, unicode_at, zero_at, line_end_at, escape_at, character_at}
use Rattle.js_lexer.specs.declared.numbers.Base.TheVariants as base
use Rattle.js_lexer.proofs.Spans.{run_of, run_only}
use Rattle.js_lexer.proofs.Numerals.{capped_is}

-- ---- what is read is an escape

byte_by : (a b : ℕ) (rest : List ℕ) (r : Read) (x : Bool) → (is_hexadecimal a && is_hexadecimal b) ≡ x → cond x (Some ((digit_value a * 16 + digit_value b) ∷ [], rest)) None ≡ Some r → IsEscape (120 ∷ a ∷ b ∷ rest) r.0 r.1
byte_by a b rest r true e h =
    let parts = and_parts (is_hexadecimal a) (is_hexadecimal b) e in
    let same : ((digit_value a * 16 + digit_value b) ∷ [], rest) ≡ r = cc in
    subst (λ (q : Read). IsEscape (120 ∷ a ∷ b ∷ rest) q.0 q.1) same (escape_byte a b rest parts.0 parts.1)
byte_by a b rest r false e h = absurd cc

byte_of : (units : List ℕ) (r : Read) → byte_at units ≡ Some r → IsEscape (120 ∷ units) r.0 r.1
unfolding byte_at
byte_of [] r e = absurd cc
byte_of (a ∷ []) r e = absurd cc
byte_of (a ∷ b ∷ rest) r e = byte_by a b rest r (is_hexadecimal a && is_hexadecimal b) refl e

unit_by : (a b c d : ℕ) (rest : List ℕ) (r : Read) (x : Bool) → (is_hexadecimal a && is_hexadecimal b && is_hexadecimal c && is_hexadecimal d) ≡ x → cond x (Some ((digit_value a * 4096 + digit_value b * 256 + digit_value c * 16 + digit_value d) ∷ [], rest)) None ≡ Some r → IsEscape (117 ∷ a ∷ b ∷ c ∷ d ∷ rest) r.0 r.1
unit_by a b c d rest r true e h =
    let last = and_parts (is_hexadecimal a && is_hexadecimal b && is_hexadecimal c) (is_hexadecimal d) e in
    let third = and_parts (is_hexadecimal a && is_hexadecimal b) (is_hexadecimal c) last.0 in
    let first = and_parts (is_hexadecimal a) (is_hexadecimal b) third.0 in
    let same : ((digit_value a * 4096 + digit_value b * 256 + digit_value c * 16 + digit_value d) ∷ [], rest) ≡ r = cc in
    subst (λ (q : Read). IsEscape (117 ∷ a ∷ b ∷ c ∷ d ∷ rest) q.0 q.1) same (escape_unit a b c d rest first.0 first.1 third.1 last.1)
unit_by a b c d rest r false e h = absurd cc

unit_of : (units : List ℕ) (r : Read) → unit_at units ≡ Some r → IsEscape (117 ∷ units) r.0 r.1
unfolding unit_at
unit_of [] r e = absurd cc
unit_of (a ∷ []) r e = absurd cc
unit_of (a ∷ b ∷ []) r e = absurd cc
unit_of (a ∷ b ∷ c ∷ []) r e = absurd cc
unit_of (a ∷ b ∷ c ∷ d ∷ rest) r e = unit_by a b c d rest r (is_hexadecimal a && is_hexadecimal b && is_hexadecimal c && is_hexadecimal d) refl e

-- a run where the first unit passes isn't empty
run_some : (test : ℕ → Bool) (units run rest : List ℕ) → IsRun test units run rest → starts test units ≡ true → 0 < length run
run_some test units [] rest h e = absurd (let a : starts test units ≡ starts test rest = ap (starts test) h.units_are in let b = h.ends in cc)
run_some test units (u ∷ run) rest h e = omega arith

-- a capped number that is small is the number
small_value : (v : ℕ) → capped v ≤ 1114111 → capped v ≡ v
small_value v h = omega arith

point_close : (run : List ℕ) (u : ℕ) (us : List ℕ) (r : Read) → 0 < length run → list_all is_hexadecimal run ≡ true → (x : Bool) → (u == 125 && nat_le (capped (value_from base.Hexadecimal 0 run)) 1114111) ≡ x → cond x (Some (encode (capped (value_from base.Hexadecimal 0 run)), us)) None ≡ Some r → IsEscape (117 ∷ 123 ∷ run ++ u ∷ us) r.0 r.1
point_close run u us r some all true e h =
    let value = value_from base.Hexadecimal 0 run in
    let parts = and_parts (u == 125) (nat_le (capped (value_from base.Hexadecimal 0 run)) 1114111) e in
    let low : capped (value_from base.Hexadecimal 0 run) ≤ 1114111 = grind (arith, parts.1) in
    let is_value = small_value (value_from base.Hexadecimal 0 run) low in
    let same : (encode (value_from base.Hexadecimal 0 run), us) ≡ r = cc in
    subst (λ (q : ℕ). IsEscape (117 ∷ 123 ∷ run ++ q ∷ us) r.0 r.1) (sym (eqb-true u 125 parts.0))
    (subst (λ (q : Read). IsEscape (117 ∷ 123 ∷ run ++ 125 ∷ us) q.0 q.1) same (escape_point run us some all (subst (λ (q : ℕ). q ≤ 1114111) is_value low)))
point_close run u us r some all false e h = absurd cc

point_rest : (units run rest : List ℕ) (r : Read) → IsRun (is_digit_of base.Hexadecimal) units run rest → 0 < length run → point_by (capped (value_from base.Hexadecimal 0 run)) rest ≡ Some r → IsEscape (117 ∷ 123 ∷ units) r.0 r.1
point_rest units run [] r h some e = absurd cc
point_rest units run (u ∷ us) r h some e =
    subst (λ (q : List ℕ). IsEscape (117 ∷ 123 ∷ q) r.0 r.1) (sym h.units_are)
    (point_close run u us r some h.all (u == 125 && nat_le (capped (value_from base.Hexadecimal 0 run)) 1114111) refl e)

point_first : (units : List ℕ) (r : Read) (x : Bool) → starts is_hexadecimal units ≡ x → cond x (point_by (capped_from base.Hexadecimal 0 units) (skip_while (is_digit_of base.Hexadecimal) units)) None ≡ Some r → IsEscape (117 ∷ 123 ∷ units) r.0 r.1
point_first units r true e h =
    let run = run_of (is_digit_of base.Hexadecimal) units in
    point_rest units run.0 (skip_while (is_digit_of base.Hexadecimal) units) r run.1 (run_some (is_digit_of base.Hexadecimal) units run.0 _ run.1 e)
    (ap (λ q. point_by q (skip_while (is_digit_of base.Hexadecimal) units)) (sym (capped_is base.Hexadecimal units run.0 _ run.1)) ∙ h)
point_first units r false e h = absurd cc

point_of : (units : List ℕ) (r : Read) → point_at units ≡ Some r → IsEscape (117 ∷ 123 ∷ units) r.0 r.1
unfolding point_at
point_of units r e = point_first units r (starts is_hexadecimal units) refl e

unicode_by : (u : ℕ) (us : List ℕ) (r : Read) (x : Bool) → (u == 123) ≡ x → cond x (point_at us) (unit_at (u ∷ us)) ≡ Some r → IsEscape (117 ∷ u ∷ us) r.0 r.1
unicode_by u us r true e h = subst (λ (q : ℕ). IsEscape (117 ∷ q ∷ us) r.0 r.1) (sym (eqb-true u 123 e)) (point_of us r h)
unicode_by u us r false e h = unit_of (u ∷ us) r h

unicode_of : (units : List ℕ) (r : Read) → unicode_at units ≡ Some r → IsEscape (117 ∷ units) r.0 r.1
unfolding unicode_at
unicode_of [] r e = absurd cc
unicode_of (u ∷ us) r e = unicode_by u us r (u == 123) refl e

zero_of : (u : ℕ) (us : List ℕ) (r : Read) (x y : Bool) → (u == 48) ≡ x → starts is_digit us ≡ y → cond x (cond y None (Some (0 ∷ [], us))) None ≡ Some r → IsEscape (u ∷ us) r.0 r.1
zero_of u us r true true a b h = absurd cc
zero_of u us r true false a b h =
    let same : (0 ∷ [], us) ≡ r = cc in
    subst (λ (q : ℕ). IsEscape (q ∷ us) r.0 r.1) (sym (eqb-true u 48 a)) (subst (λ (q : Read). IsEscape (48 ∷ us) q.0 q.1) same (escape_zero us b))
zero_of u us r false y a b h = absurd cc

line_end_by : (u v : ℕ) (us : List ℕ) (x y : Bool) → (u == 13) ≡ x → (v == 10) ≡ y → is_line_end u ≡ true → IsEscape (u ∷ v ∷ us) [] (cond (x && y) us (v ∷ us))
line_end_by u v us true true a b e = let p = eqb-true u 13 a in let q = eqb-true v 10 b in subst (λ (w : ℕ). IsEscape (w ∷ v ∷ us) [] us) (sym p) (subst (λ (w : ℕ). IsEscape (13 ∷ w ∷ us) [] us) (sym q) (escape_cr_lf us))
line_end_by u v us true false a b e = escape_line_end u (v ∷ us) e (rw a b)
line_end_by u v us false y a b e = escape_line_end u (v ∷ us) e (rw a refl)

cr_lf_none : (u : ℕ) (x : Bool) → cond x (starts (λ v. v == 10) []) false ≡ false
cr_lf_none u true = refl
cr_lf_none u false = refl

line_end_of : (u : ℕ) (us : List ℕ) → is_line_end u ≡ true → IsEscape (u ∷ us) [] (line_end_at u us)
line_end_of u [] e = escape_line_end u [] e (cr_lf_none u (u == 13))
line_end_of u (v ∷ us) e = line_end_by u v us (u == 13) (v == 10) refl refl e

escape_by : (u : ℕ) (us : List ℕ) (r : Read) (a b d l : Bool) → (u == 120) ≡ a → (u == 117) ≡ b → is_digit u ≡ d → is_line_end u ≡ l → cond a (byte_at us) (cond b (unicode_at us) (cond d (zero_at u us) (cond l (Some ([], line_end_at u us)) (Some (escaped u ∷ [], us))))) ≡ Some r → IsEscape (u ∷ us) r.0 r.1
unfolding is_escaped
escape_by u us r true b d l ea eb ed el h = subst (λ (q : ℕ). IsEscape (q ∷ us) r.0 r.1) (sym (eqb-true u 120 ea)) (byte_of us r h)
escape_by u us r false true d l ea eb ed el h = subst (λ (q : ℕ). IsEscape (q ∷ us) r.0 r.1) (sym (eqb-true u 117 eb)) (unicode_of us r h)
escape_by u us r false false true l ea eb ed el h = zero_of u us r (u == 48) (starts is_digit us) refl refl h
escape_by u us r false false false true ea eb ed el h =
    let same : ([], line_end_at u us) ≡ r = cc in
    subst (λ (q : Read). IsEscape (u ∷ us) q.0 q.1) same (line_end_of u us el)
escape_by u us r false false false false ea eb ed el h =
    let same : (escaped u ∷ [], us) ≡ r = cc in
    subst (λ (q : Read). IsEscape (u ∷ us) q.0 q.1) same (escape_character u us (rw (ea, eb, ed, el) refl))

pub escape_of : (units : List ℕ) (r : Read) → escape_at units ≡ Some r → IsEscape units r.0 r.1
unfolding escape_at
escape_of [] r e = absurd cc
escape_of (u ∷ us) r e = escape_by u us r (u == 120) (u == 117) (is_digit u) (is_line_end u) refl refl refl refl e

character_by : (u : ℕ) (us : List ℕ) (r : Read) (a b : Bool) → (u == 92) ≡ a → is_plain u ≡ b → cond a (escape_at us) (cond b (Some (u ∷ [], us)) None) ≡ Some r → IsCharacter (u ∷ us) r.0 r.1
character_by u us r true b ea eb h = subst (λ (q : ℕ). IsCharacter (q ∷ us) r.0 r.1) (sym (eqb-true u 92 ea)) (character_escape us r.0 r.1 (escape_of us r h))
character_by u us r false true ea eb h =
    let same : (u ∷ [], us) ≡ r = cc in
    subst (λ (q : Read). IsCharacter (u ∷ us) q.0 q.1) same (character_plain u us eb)
character_by u us r false false ea eb h = absurd cc

pub character_of : (units : List ℕ) (r : Read) → character_at units ≡ Some r → IsCharacter units r.0 r.1
unfolding character_at
character_of [] r e = absurd cc
character_of (u ∷ us) r e = character_by u us r (u == 92) (is_plain u) refl refl e

-- ---- an escape is read

or_four : (a b d l : Bool) → not (a || b || d || l) ≡ true → (a ≡ false) × (b ≡ false) × (d ≡ false) × (l ≡ false)
or_four false false false false e = (refl, refl, refl, refl)
or_four true b d l e = absurd cc
or_four false true d l e = absurd cc
or_four false false true l e = absurd cc
or_four false false false true e = absurd cc

character_only' : (u : ℕ) (rest : List ℕ) → is_escaped u ≡ true → escape_at (u ∷ rest) ≡ Some (escaped u ∷ [], rest)
unfolding escape_at is_escaped
character_only' u rest e =
    let parts = or_four (u == 120) (u == 117) (is_digit u) (is_line_end u) e in
    rw (parts.0, parts.1, parts.2, parts.3) refl

line_units : (u : ℕ) → is_line_end u ≡ true → ((u == 120) ≡ false) × ((u == 117) ≡ false) × (is_digit u ≡ false)
unfolding is_line_end is_digit
line_units u e = (grind (arith, eqb-true), grind (arith, eqb-true), grind (arith, eqb-true))

line_at : (u : ℕ) (rest : List ℕ) → is_cr_lf u rest ≡ false → line_end_at u rest ≡ rest
line_at u [] e = refl
line_at u (v ∷ us) e = by (u == 13) e
  where
    by : (x : Bool) → cond x (v == 10) false ≡ false → cond (x && v == 10) us (v ∷ us) ≡ v ∷ us
    by true f = rw f refl
    by false f = refl

line_only : (u : ℕ) (rest : List ℕ) → is_line_end u ≡ true → is_cr_lf u rest ≡ false → escape_at (u ∷ rest) ≡ Some ([], rest)
unfolding escape_at
line_only u rest e apart =
    let parts = line_units u e in
    rw (parts.0, parts.1, parts.2, e) (ap (λ q. Some ([], q)) (line_at u rest apart))

cap_small : (v : ℕ) → v ≤ 1114111 → (capped v ≡ v) × (nat_le v 1114111 ≡ true)
cap_small v h = (omega arith, grind arith)

-- no hexadecimal digit is a closing brace
brace_ends : is_hexadecimal 125 ≡ false
unfolding is_hexadecimal is_digit
brace_ends = refl

first_digit : (digits rest : List ℕ) → 0 < length digits → list_all is_hexadecimal digits ≡ true → starts is_hexadecimal (digits ++ rest) ≡ true
first_digit [] rest some all = absurd (omega arith)
first_digit (d ∷ digits) rest some all = (and_parts (is_hexadecimal d) (list_all is_hexadecimal digits) all).0

point_only : (digits rest : List ℕ) → 0 < length digits → list_all is_hexadecimal digits ≡ true → value_from base.Hexadecimal 0 digits ≤ 1114111 → point_at (digits ++ 125 ∷ rest) ≡ Some (encode (value_from base.Hexadecimal 0 digits), rest)
unfolding point_at
point_only digits rest some all low =
    let run : IsRun (is_digit_of base.Hexadecimal) (digits ++ 125 ∷ rest) digits (125 ∷ rest) = record { units_are = refl; all = all; ends = brace_ends } in
    let small = cap_small (value_from base.Hexadecimal 0 digits) low in
    rw (first_digit digits (125 ∷ rest) some all, run_only (is_digit_of base.Hexadecimal) (digits ++ 125 ∷ rest) digits (125 ∷ rest) run, capped_is base.Hexadecimal (digits ++ 125 ∷ rest) digits (125 ∷ rest) run, small.0) (rw small.1 refl)

point_first_only : (digits rest : List ℕ) → escape_at (117 ∷ 123 ∷ digits ++ 125 ∷ rest) ≡ point_at (digits ++ 125 ∷ rest)
unfolding escape_at unicode_at is_digit
point_first_only digits rest = refl

-- no hexadecimal digit is an opening brace
open_apart : (a : ℕ) → is_hexadecimal a ≡ true → (a == 123) ≡ false
unfolding is_hexadecimal is_digit
open_apart a e = grind (arith, eqb-true)

unit_only : (a b c d : ℕ) (rest : List ℕ) → is_hexadecimal a ≡ true → is_hexadecimal b ≡ true → is_hexadecimal c ≡ true → is_hexadecimal d ≡ true → escape_at (117 ∷ a ∷ b ∷ c ∷ d ∷ rest) ≡ Some ((digit_value a * 4096 + digit_value b * 256 + digit_value c * 16 + digit_value d) ∷ [], rest)
unfolding escape_at unicode_at unit_at
unit_only a b c d rest ha hb hc hd = rw (open_apart a ha) (rw (ha, hb, hc, hd) refl)

byte_only : (a b : ℕ) (rest : List ℕ) → is_hexadecimal a ≡ true → is_hexadecimal b ≡ true → escape_at (120 ∷ a ∷ b ∷ rest) ≡ Some ((digit_value a * 16 + digit_value b) ∷ [], rest)
unfolding escape_at byte_at
byte_only a b rest ha hb = rw (ha, hb) refl

zero_only : (rest : List ℕ) → starts is_digit rest ≡ false → escape_at (48 ∷ rest) ≡ Some (0 ∷ [], rest)
unfolding escape_at is_digit
zero_only rest e = rw e refl

cr_lf_only : (rest : List ℕ) → escape_at (13 ∷ 10 ∷ rest) ≡ Some ([], rest)
unfolding escape_at is_digit is_line_end
cr_lf_only rest = refl

pub escape_only : (units value rest : List ℕ) → IsEscape units value rest → escape_at units ≡ Some (value, rest)
escape_only _ _ _ (escape_character u rest e) = character_only' u rest e
escape_only _ _ _ (escape_zero rest e) = zero_only rest e
escape_only _ _ _ (escape_byte a b rest ha hb) = byte_only a b rest ha hb
escape_only _ _ _ (escape_unit a b c d rest ha hb hc hd) = unit_only a b c d rest ha hb hc hd
escape_only _ _ _ (escape_point digits rest some all low) = point_first_only digits rest ∙ point_only digits rest some all low
escape_only _ _ _ (escape_cr_lf rest) = cr_lf_only rest
escape_only _ _ _ (escape_line_end u rest e apart) = line_only u rest e apart

plain_unit : (u : ℕ) → is_plain u ≡ true → (u == 92) ≡ false
unfolding is_plain
plain_unit u e = by (u == 92) e
  where
    by : (x : Bool) → not (x || u == 10 || u == 13) ≡ true → x ≡ false
    by true f = absurd cc
    by false f = refl

pub character_only : (units value rest : List ℕ) → IsCharacter units value rest → character_at units ≡ Some (value, rest)
unfolding character_at
character_only _ _ _ (character_plain u rest e) = rw (plain_unit u e, e) refl
character_only _ _ _ (character_escape units value rest h) = escape_only units value rest h
