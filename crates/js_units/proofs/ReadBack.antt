-- A quoted text that is read is the quoted text of what was read, and each is read.
use Rattle.std.proofs.Common.{◌≡◌, ℕ, ◌+◌, ◌*◌, ◌/◌, ◌%◌, ◌<◌, Bool, true, false, cond, List, [], ◌∷◌, ◌++◌, length, Option, Some, None, refl, sym, ap, subst, ◌∙◌, arith, append_assoc, append-nil}
use Rattle.std.specs.Prelude.{◌||◌, ◌&&◌, ◌==◌, not, nat_le}
use Rattle.std.specs.List.{flat_map}
use Rattle.std.proofs.lemmas.Bool.{eqb-true, and_parts, lt-ltb, leb-true, ltb-true}
use Rattle.js_units.specs.Quoted.{hex_digit, four_digits, is_printable, unit_text, quoted}
use Rattle.js_units.specs.Reading.{many}
use Rattle.js_units.specs.Unquoted.{is_unit, are_units, IsUnescaped, is_lower_hex, lower_value, unprinted, coded_at, escaped_at, unit_at, closed, inside_at, quoted_at, whole}
use Rattle.js_units.proofs.Reading.{same_read, shortens, Shortens, Sound, Spelt, Complete, many_sound, many_complete}

abbrev pub IsUnit : ℕ → Type 0
IsUnit u = u < 65536

-- ---- digits

digit_lower : (d : ℕ) → d < 16 → is_lower_hex (hex_digit d) ≡ true
digit_lower d h = grind arith

digit_is : (d : ℕ) → d < 16 → lower_value (hex_digit d) ≡ d
digit_is d h = grind arith

value_small : (b : ℕ) → is_lower_hex b ≡ true → lower_value b < 16
value_small b h = grind arith

value_is : (b : ℕ) → is_lower_hex b ≡ true → hex_digit (lower_value b) ≡ b
value_is b h = grind arith

four_is : (u : ℕ) → u < 65536 → u / 4096 * 4096 + u / 256 % 16 * 256 + u / 16 % 16 * 16 + u % 16 ≡ u
four_is u h = omega arith

four_parts : (a b c d : ℕ) → a < 16 → b < 16 → c < 16 → d < 16 → ((a * 4096 + b * 256 + c * 16 + d) / 4096 ≡ a) × ((a * 4096 + b * 256 + c * 16 + d) / 256 % 16 ≡ b) × ((a * 4096 + b * 256 + c * 16 + d) / 16 % 16 ≡ c) × ((a * 4096 + b * 256 + c * 16 + d) % 16 ≡ d)
four_parts a b c d ha hb hc hd = (omega arith, omega arith, omega arith, omega arith)

-- ---- what is read

digits_of : (a b c d : ℕ) → is_lower_hex a ≡ true → is_lower_hex b ≡ true → is_lower_hex c ≡ true → is_lower_hex d ≡ true → four_digits (lower_value a * 4096 + lower_value b * 256 + lower_value c * 16 + lower_value d) ≡ a ∷ b ∷ c ∷ d ∷ []
digits_of a b c d ha hb hc hd =
    let p = four_parts (lower_value a) (lower_value b) (lower_value c) (lower_value d) (value_small a ha) (value_small b hb) (value_small c hc) (value_small d hd) in
    rw (p.0, p.1, p.2, p.3, value_is a ha, value_is b hb, value_is c hc, value_is d hd) refl

value_low : (a b c d : ℕ) → is_lower_hex a ≡ true → is_lower_hex b ≡ true → is_lower_hex c ≡ true → is_lower_hex d ≡ true → lower_value a * 4096 + lower_value b * 256 + lower_value c * 16 + lower_value d < 65536
value_low a b c d ha hb hc hd = omega (arith, value_small a ha, value_small b hb, value_small c hc, value_small d hd)

-- what the units of a coded one are
record IsCoded (list : List ℕ) (u : ℕ) (rest : List ℕ) : Type 0 where
  low : u < 65536
  hidden : is_printable u ≡ false
  digits : four_digits u ++ rest ≡ list

printed_by : (v : ℕ) (list rest : List ℕ) (u : ℕ) (r : List ℕ) (y : Bool) → is_printable v ≡ y → cond {A = Option (ℕ × List ℕ)} y None (Some (v, rest)) ≡ Some (u, r) → v < 65536 → four_digits v ++ rest ≡ list → IsCoded list u r
printed_by v list rest u r true e h low digits = absurd cc
printed_by v list rest u r false e h low digits =
    let both = same_read v u rest r h in
    let same = both.0 in
    let behind = both.1 in
    record {
      low = subst (λ (q : ℕ). q < 65536) same low;
      hidden = subst (λ (q : ℕ). is_printable q ≡ false) same e;
      digits = subst (λ (q : ℕ). four_digits q ++ r ≡ list) same (subst (λ (q : List ℕ). four_digits v ++ q ≡ list) behind digits);
    }

coded_by : (a b c d : ℕ) (rest : List ℕ) (u : ℕ) (r : List ℕ) (x : Bool) → (is_lower_hex a && is_lower_hex b && is_lower_hex c && is_lower_hex d) ≡ x → cond x (unprinted (lower_value a * 4096 + lower_value b * 256 + lower_value c * 16 + lower_value d) rest) None ≡ Some (u, r) → IsCoded (a ∷ b ∷ c ∷ d ∷ rest) u r
coded_by a b c d rest u r true e h =
    let last = and_parts (is_lower_hex a && is_lower_hex b && is_lower_hex c) (is_lower_hex d) e in
    let third = and_parts (is_lower_hex a && is_lower_hex b) (is_lower_hex c) last.0 in
    let first = and_parts (is_lower_hex a) (is_lower_hex b) third.0 in
    printed_by (lower_value a * 4096 + lower_value b * 256 + lower_value c * 16 + lower_value d) (a ∷ b ∷ c ∷ d ∷ rest) rest u r _ refl h (value_low a b c d first.0 first.1 third.1 last.1) (ap (λ (q : List ℕ). q ++ rest) (digits_of a b c d first.0 first.1 third.1 last.1))
coded_by a b c d rest u r false e h = absurd cc

coded_of : (list : List ℕ) (u : ℕ) (r : List ℕ) → coded_at list ≡ Some (u, r) → IsCoded list u r
unfolding coded_at
coded_of [] u r e = absurd cc
coded_of (a ∷ []) u r e = absurd cc
coded_of (a ∷ b ∷ []) u r e = absurd cc
coded_of (a ∷ b ∷ c ∷ []) u r e = absurd cc
coded_of (a ∷ b ∷ c ∷ d ∷ rest) u r e = coded_by a b c d rest u r (is_lower_hex a && is_lower_hex b && is_lower_hex c && is_lower_hex d) refl e

coded_text : (u : ℕ) (x y : Bool) → (u == 34) ≡ x → (u == 92) ≡ y → is_printable u ≡ false → unit_text u ≡ 92 ∷ 117 ∷ four_digits u
coded_text u true y a b e = absurd (let same = eqb-true u 34 a in let e' : is_printable 34 ≡ false = ap is_printable (sym same) ∙ e in cc)
coded_text u false true a b e = absurd (let same = eqb-true u 92 b in let e' : is_printable 92 ≡ false = ap is_printable (sym same) ∙ e in cc)
coded_text u false false a b e = rw (a, b, e) refl

escaped_by : (b : ℕ) (rest : List ℕ) (u : ℕ) (r : List ℕ) (x y z : Bool) → (b == 117) ≡ x → (b == 34) ≡ y → (b == 92) ≡ z → cond x (coded_at rest) (cond (y || z) (Some (b, rest)) None) ≡ Some (u, r) → (u < 65536) × (unit_text u ++ r ≡ 92 ∷ b ∷ rest)
escaped_by b rest u r true y z ex ey ez h =
    let k = coded_of rest u r h in
    (k.low, rw (coded_text u (u == 34) (u == 92) refl refl k.hidden, eqb-true b 117 ex) (ap (λ (q : List ℕ). 92 ∷ 117 ∷ q) k.digits))
escaped_by b rest u r false true z ex ey ez h =
    let both = same_read b u rest r h in
    let same = both.0 in
    let behind = both.1 in
    let is = eqb-true b 34 ey in
    (omega (arith, same, is), rw (← same, ← behind, is) refl)
escaped_by b rest u r false false true ex ey ez h =
    let both = same_read b u rest r h in
    let same = both.0 in
    let behind = both.1 in
    let is = eqb-true b 92 ez in
    (omega (arith, same, is), rw (← same, ← behind, is) refl)
escaped_by b rest u r false false false ex ey ez h = absurd cc

escaped_of : (list : List ℕ) (u : ℕ) (r : List ℕ) → escaped_at list ≡ Some (u, r) → (u < 65536) × (unit_text u ++ r ≡ 92 ∷ list)
unfolding escaped_at
escaped_of [] u r e = absurd cc
escaped_of (b ∷ rest) u r e = escaped_by b rest u r (b == 117) (b == 34) (b == 92) refl refl refl e

printable_low : (u : ℕ) → is_printable u ≡ true → u < 65536
printable_low u e = let k = leb-true u 126 (and_parts (nat_le 32 u) (nat_le u 126) e).1 in omega (arith, k)

plain_text : (u : ℕ) → (u == 34) ≡ false → (u == 92) ≡ false → is_printable u ≡ true → unit_text u ≡ u ∷ []
plain_text u a b e = rw (a, b, e) refl

plain_by : (b : ℕ) (rest : List ℕ) (u : ℕ) (r : List ℕ) (x y z : Bool) → (b == 92) ≡ x → is_printable b ≡ y → (b == 34) ≡ z → cond x (escaped_at rest) (cond (y && not z) (Some (b, rest)) None) ≡ Some (u, r) → (u < 65536) × (unit_text u ++ r ≡ b ∷ rest)
plain_by b rest u r true y z ex ey ez h =
    let k = escaped_of rest u r h in (k.0, rw (eqb-true b 92 ex) k.1)
plain_by b rest u r false true true ex ey ez h = absurd cc
plain_by b rest u r false true false ex ey ez h =
    let both = same_read b u rest r h in
    let same = both.0 in
    let behind = both.1 in
    (subst (λ (q : ℕ). q < 65536) same (printable_low b ey), rw (← same, ← behind, plain_text b ez ex ey) refl)
plain_by b rest u r false false z ex ey ez h = absurd cc

pub unit_sound : Sound unit_at unit_text IsUnit
unfolding unit_at
unit_sound [] u r e = absurd cc
unit_sound (b ∷ rest) u r e = plain_by b rest u r (b == 92) (is_printable b) (b == 34) refl refl refl e

-- ---- what is written

coded_only : (u : ℕ) (rest : List ℕ) → u < 65536 → is_printable u ≡ false → coded_at (four_digits u ++ rest) ≡ Some (u, rest)
unfolding coded_at
coded_only u rest low e =
    let a : u / 4096 < 16 = omega arith in
    let b : u / 256 % 16 < 16 = omega arith in
    let c : u / 16 % 16 < 16 = omega arith in
    let d : u % 16 < 16 = omega arith in
    rw (digit_lower (u / 4096) a, digit_lower (u / 256 % 16) b, digit_lower (u / 16 % 16) c, digit_lower (u % 16) d)
    (rw (digit_is (u / 4096) a, digit_is (u / 256 % 16) b, digit_is (u / 16 % 16) c, digit_is (u % 16) d)
    (rw (four_is u low) (rw e refl)))

unit_by : (u : ℕ) (rest : List ℕ) (x y z : Bool) → (u == 34) ≡ x → (u == 92) ≡ y → is_printable u ≡ z → u < 65536 → unit_at (unit_text u ++ rest) ≡ Some (u, rest)
unfolding unit_at escaped_at
unit_by u rest true y z ex ey ez low = rw (eqb-true u 34 ex) refl
unit_by u rest false true z ex ey ez low = rw (eqb-true u 92 ey) refl
unit_by u rest false false true ex ey ez low = rw (plain_text u ex ey ez) (rw (ey, ez, ex) refl)
unit_by u rest false false false ex ey ez low = rw (coded_text u (u == 34) (u == 92) refl refl ez) (coded_only u rest low ez)

pub unit_complete : Complete unit_at unit_text IsUnit (λ rest. Unit {0})
unit_complete u rest low f = unit_by u rest (u == 34) (u == 92) (is_printable u) refl refl refl low

unit_some : (u : ℕ) → 0 < length (unit_text u)
unit_some u = by u (u == 34) (u == 92) (is_printable u) refl refl refl
  where
    by : (u : ℕ) (x y z : Bool) → (u == 34) ≡ x → (u == 92) ≡ y → is_printable u ≡ z → 0 < length (unit_text u)
    by u true y z a b e = rw a (omega arith)
    by u false true z a b e = rw (a, b) (omega arith)
    by u false false true a b e = rw (a, b, e) (omega arith)
    by u false false false a b e = rw (a, b, e) (omega arith)

pub unit_shortens : Shortens unit_at
unit_shortens = shortens unit_at unit_text IsUnit unit_sound unit_some

-- ---- texts

units_of : (text : List ℕ) → Spelt IsUnit text → are_units text ≡ true
units_of [] s = refl
units_of (u ∷ text) s = rw (lt-ltb u 65536 s.0) (units_of text s.1)

pub spelt_of : (text : List ℕ) → are_units text ≡ true → Spelt IsUnit text
spelt_of [] e = tt
spelt_of (u ∷ text) e = let parts = and_parts (is_unit u) (are_units text) e in (ltb-true u 65536 parts.0, spelt_of text parts.1)

closed_by : (text : List ℕ) (list : List ℕ) (b : ℕ) (left : List ℕ) (t rest : List ℕ) (x : Bool) → (b == 34) ≡ x → are_units text ≡ true → flat_map unit_text text ++ (b ∷ left) ≡ list → cond {A = Option (List ℕ × List ℕ)} x (Some (text, left)) None ≡ Some (t, rest) → (are_units t ≡ true) × (flat_map unit_text t ++ 34 ∷ rest ≡ list)
closed_by text list b left t rest true e s h k =
    let both = same_read text t left rest k in
    (rw (← both.0) s, rw (← both.0, ← both.1, ← eqb-true b 34 e) h)
closed_by text list b left t rest false e s h k = absurd cc

closed_of : (text : List ℕ) (list : List ℕ) (left : List ℕ) (t rest : List ℕ) → are_units text ≡ true → flat_map unit_text text ++ left ≡ list → closed text left ≡ Some (t, rest) → (are_units t ≡ true) × (flat_map unit_text t ++ 34 ∷ rest ≡ list)
closed_of text list [] t rest s h k = absurd cc
closed_of text list (b ∷ left) t rest s h k = closed_by text list b left t rest (b == 34) refl s h k

inside_of : (list t rest : List ℕ) → inside_at list ≡ Some (t, rest) → (are_units t ≡ true) × (flat_map unit_text t ++ 34 ∷ rest ≡ list)
inside_of list t rest k =
    let m = many_sound unit_at unit_text IsUnit unit_sound list in
    closed_of (many unit_at list).0 list (many unit_at list).1 t rest (units_of (many unit_at list).0 m.0) m.1 k

quoted_by : (b : ℕ) (list t rest : List ℕ) (x : Bool) → (b == 34) ≡ x → cond x (inside_at list) None ≡ Some (t, rest) → (are_units t ≡ true) × (quoted t ++ rest ≡ b ∷ list)
unfolding quoted
quoted_by b list t rest true e k =
    let m = inside_of list t rest k in
    (m.0, rw (eqb-true b 34 e) (ap (λ (q : List ℕ). 34 ∷ q) (append_assoc (flat_map unit_text t) (34 ∷ []) rest ∙ m.1)))
quoted_by b list t rest false e k = absurd cc

-- what is read is the quoted text of a string, and what is behind it
pub quoted_sound : (list t rest : List ℕ) → quoted_at list ≡ Some (t, rest) → (are_units t ≡ true) × (quoted t ++ rest ≡ list)
unfolding quoted_at
quoted_sound [] t rest k = absurd cc
quoted_sound (b ∷ list) t rest k = quoted_by b list t rest (b == 34) refl k

quote_ends : (rest : List ℕ) → unit_at (34 ∷ rest) ≡ None
unfolding unit_at
quote_ends rest = refl

-- and each is read
pub quoted_complete : (t rest : List ℕ) → are_units t ≡ true → quoted_at (quoted t ++ rest) ≡ Some (t, rest)
unfolding quoted_at quoted
quoted_complete t rest s =
    let m = many_complete unit_at unit_text IsUnit (λ r. Unit {0}) unit_shortens unit_complete (λ x r q. tt) t (34 ∷ rest) (spelt_of t s) tt (quote_ends rest) in
    ap (λ (q : List ℕ). inside_at q) (append_assoc (flat_map unit_text t) (34 ∷ []) rest) ∙ ap (λ (q : List ℕ × List ℕ). closed q.0 q.1) m

alone : (t rest : List ℕ) (list : List ℕ) → are_units t ≡ true → quoted t ≡ list → (r : Option (List ℕ × List ℕ)) → quoted_at list ≡ r → r ≡ Some (t, [])
alone t rest list s h r e = sym e ∙ ap quoted_at (sym h ∙ sym (append-nil (quoted t))) ∙ quoted_complete t [] s

pub unescaped : (list : List ℕ) (r : Option (List ℕ × List ℕ)) → quoted_at list ≡ r → IsUnescaped list (whole r)
unescaped list None e = λ t s h. let k = alone t [] list s h None e in cc
unescaped list (Some (t, [])) e = let k = quoted_sound list t [] e in (k.0, sym (append-nil (quoted t)) ∙ k.1)
unescaped list (Some (t, b ∷ rest)) e = λ u s h. let k = same_read t u (b ∷ rest) [] (alone u [] list s h (Some (t, b ∷ rest)) e) in let f = k.1 in cc
