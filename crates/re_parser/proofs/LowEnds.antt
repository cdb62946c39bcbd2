-- Where an escape that is too low stops.
use Rattle.std.proofs.Common.{◌≡◌, ℕ, ◌+◌, ◌<◌, ◌≤◌, Bool, true, false, cond, List, [], ◌∷◌, length, Option, Some, refl, sym, ap, subst, ◌∙◌, arith}
use Rattle.std.specs.Prelude.{◌==◌, ◌&&◌, ◌*◌, nat_le, nat_lt}
use Rattle.std.proofs.lemmas.Bool.{eqb-true, leb-true, leb-false, ltb-true, ltb-false}
use Rattle.js_units.specs.Characters.{is_hexadecimal, digit_value}
use Rattle.re_parser.specs.Characters.{is_sign, control_of}
use Rattle.re_parser.specs.Escapes.{class_escape_of, escaped_member_at, range_at}
use Rattle.re_parser.specs.Faults.{hexadecimal_value, byte_fault, unit_fault, end_fault}
use Rattle.re_parser.specs.Places.{IsSyntax}
use Rattle.re_parser.specs.Reading.{FaultOf, NoMark, IsLeft}
use Rattle.re_parser.specs.declared.kinds.Member.{Member}
use Rattle.re_parser.specs.declared.kinds.Member.TheVariants as member
use Rattle.re_parser.specs.declared.refusal.Fault.{Fault}
use Rattle.re_parser.specs.declared.refusal.Fault.TheVariants as fault
use Rattle.re_parser.proofs.Passing.{InsideGo, InsideStop}
use Rattle.re_parser.proofs.Inside.{Start, escape_goes}
use Rattle.re_parser.proofs.TooLow.{place, number_goes, low_number, Low, fixed_is, fixed, shorter, digit_small, f_is, f_value, value_is, byte_of, byte_again, byte_parts, bytes_low, unit_of, unit_again, four_parts, units_low}

abbrev Placed : List ℕ → ℕ → Type 0
Placed left n = IsLeft left n (IsSyntax (InsideGo left) (InsideStop left) NoMark)

-- at the unit behind the `\`
plain_end : (left : List ℕ) (low v : ℕ) (vs : List ℕ) (high : ℕ) (behind : List ℕ) → Start left (member.One low) (92 ∷ v ∷ vs) → escaped_member_at (v ∷ vs) ≡ Some (member.One high, behind) → ((ws : List ℕ) → Low low (v ∷ ws)) → Placed left (length (v ∷ vs))
plain_end left low v vs high behind s e h =
    place left low (v ∷ vs) [] (v ∷ vs) (member.One high) behind s refl e (shorter v vs (member.One high) behind e) (escape_goes left (member.One low) (92 ∷ v ∷ vs) s)
    (λ u more d ws. let same : v ≡ u = cc in subst (λ (q : ℕ). Low low (q ∷ ws)) same (h ws))

-- ---- two digits

first_digit : (u a : ℕ) (us vs : List ℕ) → u ∷ us ≡ a ∷ vs → u ≡ a
first_digit u a us vs e = cc

next_digits : (u a : ℕ) (us vs : List ℕ) → u ∷ us ≡ a ∷ vs → us ≡ vs
next_digits u a us vs e = cc

byte_most : (a b : ℕ) → is_hexadecimal b ≡ true → byte_of a b ≤ digit_value a * 16 + 15
byte_most a b h = let small = digit_small b h in omega arith

bytes_most : (a b : ℕ) → is_hexadecimal a ≡ true → is_hexadecimal b ≡ true → byte_of a b ≤ 255
bytes_most a b g h = let one = digit_small a g in let two = digit_small b h in omega arith

byte_end : (left : List ℕ) (low a b : ℕ) (behind : List ℕ) → Start left (member.One low) (92 ∷ 120 ∷ a ∷ b ∷ behind) → is_hexadecimal a ≡ true → is_hexadecimal b ≡ true → low ≤ 255 → byte_of a b < low → FaultOf (InsideGo left) (InsideStop left) NoMark left (byte_fault low (a ∷ b ∷ behind))
unfolding byte_fault
byte_end left low a b behind s g h l n = by (nat_lt (hexadecimal_value a * 16 + 15) low) refl
  where
    by : (x : Bool) → nat_lt (hexadecimal_value a * 16 + 15) low ≡ x → FaultOf (InsideGo left) (InsideStop left) NoMark left (cond x (fault.Syntax (length (a ∷ b ∷ behind))) (fault.Syntax (length (b ∷ behind))))
    by true d =
        let below = ltb-true (hexadecimal_value a * 16 + 15) low d in
        let value = value_is a g in
        let f = f_value in
        place left low (120 ∷ a ∷ b ∷ behind) (120 ∷ []) (a ∷ b ∷ behind) (member.One (byte_of a b)) behind s refl (byte_again a b behind g h) (omega arith)
        (number_goes left low (120 ∷ a ∷ b ∷ behind) s (120 ∷ []) (70 ∷ 70 ∷ 93 ∷ []) (byte_of 70 70) (omega arith) (λ tail. byte_again 70 70 (93 ∷ tail) f_is f_is))
        (λ u more k ws. bytes_low low (u ∷ ws) (λ p q rest i x y.
        let one : a ≡ u = first_digit a u (b ∷ behind) more k in
        let two : u ≡ p = first_digit u p ws (q ∷ rest) i in
        let most = byte_most p q y in
        let same : digit_value a ≡ digit_value p = ap digit_value (one ∙ two) in
        omega arith))
    by false d =
        let above = ltb-false (hexadecimal_value a * 16 + 15) low d in
        let value = value_is a g in
        let f = f_value in
        place left low (120 ∷ a ∷ b ∷ behind) (120 ∷ a ∷ []) (b ∷ behind) (member.One (byte_of a b)) behind s refl (byte_again a b behind g h) (omega arith)
        (number_goes left low (120 ∷ a ∷ b ∷ behind) s (120 ∷ a ∷ []) (70 ∷ 93 ∷ []) (byte_of a 70) (omega arith) (λ tail. byte_again a 70 (93 ∷ tail) g f_is))
        (λ u more k ws. subst (λ (q : ℕ). Low low (120 ∷ a ∷ q ∷ ws)) (first_digit b u behind more k) (low_number low (byte_of a b) (120 ∷ a ∷ b ∷ ws) ws (byte_again a b ws g h) n))

-- ---- four digits

unit_most : (a b c d : ℕ) → is_hexadecimal b ≡ true → is_hexadecimal c ≡ true → is_hexadecimal d ≡ true → unit_of a b c d ≤ digit_value a * 4096 + 4095
unit_most a b c d g h i = let two = digit_small b g in let three = digit_small c h in let four = digit_small d i in omega arith

unit_second : (a b c d : ℕ) → is_hexadecimal c ≡ true → is_hexadecimal d ≡ true → unit_of a b c d ≤ digit_value a * 4096 + digit_value b * 256 + 255
unit_second a b c d h i = let three = digit_small c h in let four = digit_small d i in omega arith

unit_third : (a b c d : ℕ) → is_hexadecimal d ≡ true → unit_of a b c d ≤ digit_value a * 4096 + digit_value b * 256 + digit_value c * 16 + 15
unit_third a b c d i = let four = digit_small d i in omega arith

units_most : (a b c d : ℕ) → is_hexadecimal a ≡ true → is_hexadecimal b ≡ true → is_hexadecimal c ≡ true → is_hexadecimal d ≡ true → unit_of a b c d ≤ 65535
units_most a b c d f g h i = let one = digit_small a f in let most = unit_most a b c d g h i in omega arith

module _ (left : List ℕ) (low a b c d : ℕ) (behind : List ℕ) (s : Start left (member.One low) (92 ∷ 117 ∷ a ∷ b ∷ c ∷ d ∷ behind)) (f : is_hexadecimal a ≡ true) (g : is_hexadecimal b ≡ true) (h : is_hexadecimal c ≡ true) (i : is_hexadecimal d ≡ true) (l : low ≤ 65535) (n : unit_of a b c d < low) where
  pub at_first : hexadecimal_value a * 4096 + 4095 < low → Placed left (length (a ∷ b ∷ c ∷ d ∷ behind))
  at_first below =
      let value = value_is a f in
      let top = f_value in
      place left low (117 ∷ a ∷ b ∷ c ∷ d ∷ behind) (117 ∷ []) (a ∷ b ∷ c ∷ d ∷ behind) (member.One (unit_of a b c d)) behind s refl (unit_again a b c d behind f g h i) (omega arith)
      (number_goes left low (117 ∷ a ∷ b ∷ c ∷ d ∷ behind) s (117 ∷ []) (70 ∷ 70 ∷ 70 ∷ 70 ∷ 93 ∷ []) (unit_of 70 70 70 70) (omega arith) (λ tail. unit_again 70 70 70 70 (93 ∷ tail) f_is f_is f_is f_is))
      (λ u more k ws. units_low low (u ∷ ws) (λ p q r t rest j w x y z.
      let one : a ≡ u = first_digit a u (b ∷ c ∷ d ∷ behind) more k in
      let two : u ≡ p = first_digit u p ws (q ∷ r ∷ t ∷ rest) j in
      let most = unit_most p q r t x y z in
      let same : digit_value a ≡ digit_value p = ap digit_value (one ∙ two) in
      omega arith))

  pub at_second : low ≤ hexadecimal_value a * 4096 + 4095 → hexadecimal_value a * 4096 + hexadecimal_value b * 256 + 255 < low → Placed left (length (b ∷ c ∷ d ∷ behind))
  at_second above below =
      let value = value_is a f in
      let second = value_is b g in
      let top = f_value in
      place left low (117 ∷ a ∷ b ∷ c ∷ d ∷ behind) (117 ∷ a ∷ []) (b ∷ c ∷ d ∷ behind) (member.One (unit_of a b c d)) behind s refl (unit_again a b c d behind f g h i) (omega arith)
      (number_goes left low (117 ∷ a ∷ b ∷ c ∷ d ∷ behind) s (117 ∷ a ∷ []) (70 ∷ 70 ∷ 70 ∷ 93 ∷ []) (unit_of a 70 70 70) (omega arith) (λ tail. unit_again a 70 70 70 (93 ∷ tail) f f_is f_is f_is))
      (λ u more k ws. units_low low (a ∷ u ∷ ws) (λ p q r t rest j w x y z.
      let one : b ≡ u = first_digit b u (c ∷ d ∷ behind) more k in
      let head : a ≡ p = first_digit a p (u ∷ ws) (q ∷ r ∷ t ∷ rest) j in
      let two : u ≡ q = first_digit u q ws (r ∷ t ∷ rest) (next_digits a p (u ∷ ws) (q ∷ r ∷ t ∷ rest) j) in
      let most = unit_second p q r t y z in
      let same : digit_value a ≡ digit_value p = ap digit_value head in
      let other : digit_value b ≡ digit_value q = ap digit_value (one ∙ two) in
      omega arith))

  pub at_third : low ≤ hexadecimal_value a * 4096 + hexadecimal_value b * 256 + 255 → hexadecimal_value a * 4096 + hexadecimal_value b * 256 + hexadecimal_value c * 16 + 15 < low → Placed left (length (c ∷ d ∷ behind))
  at_third above below =
      let value = value_is a f in
      let second = value_is b g in
      let third = value_is c h in
      let top = f_value in
      place left low (117 ∷ a ∷ b ∷ c ∷ d ∷ behind) (117 ∷ a ∷ b ∷ []) (c ∷ d ∷ behind) (member.One (unit_of a b c d)) behind s refl (unit_again a b c d behind f g h i) (omega arith)
      (number_goes left low (117 ∷ a ∷ b ∷ c ∷ d ∷ behind) s (117 ∷ a ∷ b ∷ []) (70 ∷ 70 ∷ 93 ∷ []) (unit_of a b 70 70) (omega arith) (λ tail. unit_again a b 70 70 (93 ∷ tail) f g f_is f_is))
      (λ u more k ws. units_low low (a ∷ b ∷ u ∷ ws) (λ p q r t rest j w x y z.
      let one : c ≡ u = first_digit c u (d ∷ behind) more k in
      let head : a ≡ p = first_digit a p (b ∷ u ∷ ws) (q ∷ r ∷ t ∷ rest) j in
      let tail1 = next_digits a p (b ∷ u ∷ ws) (q ∷ r ∷ t ∷ rest) j in
      let mid : b ≡ q = first_digit b q (u ∷ ws) (r ∷ t ∷ rest) tail1 in
      let two : u ≡ r = first_digit u r ws (t ∷ rest) (next_digits b q (u ∷ ws) (r ∷ t ∷ rest) tail1) in
      let most = unit_third p q r t z in
      let same : digit_value a ≡ digit_value p = ap digit_value head in
      let other : digit_value b ≡ digit_value q = ap digit_value mid in
      let final : digit_value c ≡ digit_value r = ap digit_value (one ∙ two) in
      omega arith))

  pub at_fourth : low ≤ hexadecimal_value a * 4096 + hexadecimal_value b * 256 + hexadecimal_value c * 16 + 15 → Placed left (length (d ∷ behind))
  at_fourth above =
      let value = value_is a f in
      let second = value_is b g in
      let third = value_is c h in
      let top = f_value in
      place left low (117 ∷ a ∷ b ∷ c ∷ d ∷ behind) (117 ∷ a ∷ b ∷ c ∷ []) (d ∷ behind) (member.One (unit_of a b c d)) behind s refl (unit_again a b c d behind f g h i) (omega arith)
      (number_goes left low (117 ∷ a ∷ b ∷ c ∷ d ∷ behind) s (117 ∷ a ∷ b ∷ c ∷ []) (70 ∷ 93 ∷ []) (unit_of a b c 70) (omega arith) (λ tail. unit_again a b c 70 (93 ∷ tail) f g h f_is))
      (λ u more k ws. subst (λ (q : ℕ). Low low (117 ∷ a ∷ b ∷ c ∷ q ∷ ws)) (first_digit d u behind more k) (low_number low (unit_of a b c d) (117 ∷ a ∷ b ∷ c ∷ d ∷ ws) ws (unit_again a b c d ws f g h i) n))

unit_end : (left : List ℕ) (low a b c d : ℕ) (behind : List ℕ) → Start left (member.One low) (92 ∷ 117 ∷ a ∷ b ∷ c ∷ d ∷ behind) → is_hexadecimal a ≡ true → is_hexadecimal b ≡ true → is_hexadecimal c ≡ true → is_hexadecimal d ≡ true → low ≤ 65535 → unit_of a b c d < low → FaultOf (InsideGo left) (InsideStop left) NoMark left (unit_fault low (a ∷ b ∷ c ∷ d ∷ behind))
unfolding unit_fault
unit_end left low a b c d behind s f g h i l n =
    by (nat_lt (hexadecimal_value a * 4096 + 4095) low) (nat_lt (hexadecimal_value a * 4096 + hexadecimal_value b * 256 + 255) low) (nat_lt (hexadecimal_value a * 4096 + hexadecimal_value b * 256 + hexadecimal_value c * 16 + 15) low) refl refl refl
  where
    by : (x y z : Bool) → nat_lt (hexadecimal_value a * 4096 + 4095) low ≡ x → nat_lt (hexadecimal_value a * 4096 + hexadecimal_value b * 256 + 255) low ≡ y → nat_lt (hexadecimal_value a * 4096 + hexadecimal_value b * 256 + hexadecimal_value c * 16 + 15) low ≡ z
        → FaultOf (InsideGo left) (InsideStop left) NoMark left (cond x (fault.Syntax (length (a ∷ b ∷ c ∷ d ∷ behind))) (cond y (fault.Syntax (length (b ∷ c ∷ d ∷ behind))) (cond z (fault.Syntax (length (c ∷ d ∷ behind))) (fault.Syntax (length (d ∷ behind))))))
    by true y z p q r = at_first left low a b c d behind s f g h i l n (ltb-true (hexadecimal_value a * 4096 + 4095) low p)
    by false true z p q r = at_second left low a b c d behind s f g h i l n (ltb-false (hexadecimal_value a * 4096 + 4095) low p) (ltb-true (hexadecimal_value a * 4096 + hexadecimal_value b * 256 + 255) low q)
    by false false true p q r = at_third left low a b c d behind s f g h i l n (ltb-false (hexadecimal_value a * 4096 + hexadecimal_value b * 256 + 255) low q) (ltb-true (hexadecimal_value a * 4096 + hexadecimal_value b * 256 + hexadecimal_value c * 16 + 15) low r)
    by false false false p q r = at_fourth left low a b c d behind s f g h i l n (ltb-false (hexadecimal_value a * 4096 + hexadecimal_value b * 256 + hexadecimal_value c * 16 + 15) low r)

-- ---- all

abbrev Of : List ℕ → Fault → Type 0
Of left e = FaultOf (InsideGo left) (InsideStop left) NoMark left e

below_of : (m high low : ℕ) → member.One high ≡ member.One m → nat_le low high ≡ false → m < low
below_of m high low e n = let same : high ≡ m = cc in let lt = leb-false low high n in omega arith

byte_of_end : (left : List ℕ) (low : ℕ) (vs : List ℕ) (high : ℕ) (behind : List ℕ) → Start left (member.One low) (92 ∷ 120 ∷ vs) → escaped_member_at (120 ∷ vs) ≡ Some (member.One high, behind) → nat_le low high ≡ false → low ≤ 255 → Of left (byte_fault low vs)
byte_of_end left low vs high behind s e n l =
    let p = byte_parts vs (member.One high) behind e in
    subst (λ (q : List ℕ). Of left (byte_fault low q)) (sym p.is) (byte_end left low p.a p.b behind (subst (λ (q : List ℕ). Start left (member.One low) (92 ∷ 120 ∷ q)) p.is s) p.first p.second l (below_of (byte_of p.a p.b) high low p.value n))

unit_of_end : (left : List ℕ) (low : ℕ) (vs : List ℕ) (high : ℕ) (behind : List ℕ) → Start left (member.One low) (92 ∷ 117 ∷ vs) → escaped_member_at (117 ∷ vs) ≡ Some (member.One high, behind) → nat_le low high ≡ false → low ≤ 65535 → Of left (unit_fault low vs)
unit_of_end left low vs high behind s e n l =
    let p = four_parts vs (member.One high) behind e in
    subst (λ (q : List ℕ). Of left (unit_fault low q)) (sym p.is) (unit_end left low p.a p.b p.c p.d behind (subst (λ (q : List ℕ). Start left (member.One low) (92 ∷ 117 ∷ q)) p.is s) p.first p.second p.third p.fourth l (below_of (unit_of p.a p.b p.c p.d) high low p.value n))

pub escaped_end : (left : List ℕ) (low : ℕ) (us : List ℕ) (high : ℕ) (behind : List ℕ) → Start left (member.One low) (92 ∷ us) → escaped_member_at us ≡ Some (member.One high, behind) → nat_le low high ≡ false → FaultOf (InsideGo left) (InsideStop left) NoMark left (end_fault low (92 ∷ us))
unfolding end_fault escaped_member_at
escaped_end left low [] high behind s e n = absurd cc
escaped_end left low (v ∷ vs) high behind s e n = by (v == 117) (v == 120) (nat_le low 65535) (nat_le low 255) refl refl refl refl
  where
    by : (a b c d : Bool) → (v == 117) ≡ a → (v == 120) ≡ b → nat_le low 65535 ≡ c → nat_le low 255 ≡ d → Of left (cond (a && c) (unit_fault low vs) (cond (b && d) (byte_fault low vs) (fault.Syntax (length (v ∷ vs)))))
    by true b true d f g h i =
        let is = eqb-true v 117 f in
        unit_of_end left low vs high behind (subst (λ (q : ℕ). Start left (member.One low) (92 ∷ q ∷ vs)) is s) (ap (λ (q : ℕ). escaped_member_at (q ∷ vs)) (sym is) ∙ e) n (leb-true low 65535 h)
    by true true false d f g h i = absurd (let one = eqb-true v 117 f in let two = eqb-true v 120 g in omega arith)
    by true false false d f g h i =
        let is = eqb-true v 117 f in
        let high_low = leb-false low 65535 h in
        plain_end left low v vs high behind s e (λ ws. subst (λ (q : ℕ). Low low (q ∷ ws)) (sym is) (units_low low ws (λ p q r t rest j w x y z. let most = units_most p q r t w x y z in omega arith)))
    by false true c true f g h i =
        let is = eqb-true v 120 g in
        byte_of_end left low vs high behind (subst (λ (q : ℕ). Start left (member.One low) (92 ∷ q ∷ vs)) is s) (ap (λ (q : ℕ). escaped_member_at (q ∷ vs)) (sym is) ∙ e) n (leb-true low 255 i)
    by false true c false f g h i =
        let is = eqb-true v 120 g in
        let high_low = leb-false low 255 i in
        plain_end left low v vs high behind s e (λ ws. subst (λ (q : ℕ). Low low (q ∷ ws)) (sym is) (bytes_low low ws (λ p q rest j x y. let most = bytes_most p q x y in omega arith)))
    by false false c d f g h i =
        plain_end left low v vs high behind s e (λ ws.
        ap (λ (o : Option (Member × List ℕ)). range_at (member.One low) o) (fixed_is v ws g f)
        ∙ fixed low high v vs behind ws (v == 98) (class_escape_of v) (v == 48) (is_sign v) (control_of v) (sym (fixed_is v vs g f) ∙ e) n)
