-- An end of a range that is too low, as an escape.
use Rattle.std.proofs.Common.{◌≡◌, ℕ, ◌+◌, ◌<◌, ◌≤◌, Bool, true, false, cond, List, [], ◌∷◌, ◌++◌, length, Option, Some, None, refl, sym, ap, subst, ◌∙◌, append_assoc, arith, inr}
use Rattle.std.specs.Prelude.{◌==◌, ◌&&◌, ◌||◌, ◌*◌, ◌-◌, nat_le}
use Rattle.std.proofs.lemmas.Bool.{lt-leb, leb-true, le-leb}
use Rattle.std.proofs.lemmas.List.{length-append}
use Rattle.js_units.specs.Characters.{is_digit, is_hexadecimal, digit_value}
use Rattle.re_parser.specs.Characters.{is_sign, control_of}
use Rattle.re_parser.specs.Escapes.{starts, byte_at, unit_at, null_at, control_at, character_at, class_escape_of, one_of, many_or, escaped_member_at, member_at, range_at}
use Rattle.re_parser.specs.Faults.{hexadecimal_value}
use Rattle.re_parser.specs.Places.{IsSyntax}
use Rattle.re_parser.specs.Reading.{NoMark, IsLeft}
use Rattle.re_parser.specs.declared.kinds.ClassEscape.{ClassEscape}
use Rattle.re_parser.specs.declared.kinds.ClassItem.TheVariants as item
use Rattle.re_parser.specs.declared.kinds.Member.{Member}
use Rattle.re_parser.specs.declared.kinds.Member.TheVariants as member
use Rattle.re_parser.proofs.Members.{parts_same}
use Rattle.re_parser.proofs.Cuts.{fronts_escaped}
use Rattle.re_parser.proofs.Passing.{InsideGo, InsideStop}
use Rattle.re_parser.proofs.Inside.{Start, end_goes, end_stops}

-- ---- a place within the escape

pub escaped_is : (us : List ℕ) → member_at (92 ∷ us) ≡ escaped_member_at us
unfolding member_at
escaped_is us = refl

-- what stands behind the `\` is below
abbrev pub Low : ℕ → List ℕ → Type 0
Low low us = range_at (member.One low) (escaped_member_at us) ≡ None

pub place : (left : List ℕ) (low : ℕ) (us done rest : List ℕ) (m : Member) (behind : List ℕ) (s : Start left (member.One low) (92 ∷ us)) → us ≡ done ++ rest → escaped_member_at us ≡ Some (m, behind) → length behind < length rest → InsideGo left (s.part ++ 45 ∷ 92 ∷ done) → ((u : ℕ) (more : List ℕ) → rest ≡ u ∷ more → (vs : List ℕ) → Low low ((done ++ u ∷ []) ++ vs)) → IsLeft left (length rest) (IsSyntax (InsideGo left) (InsideStop left) NoMark)
place left low us done rest m behind s d e l g h = record {
  front = s.part ++ 45 ∷ 92 ∷ done;
  rest = rest;
  parts = s.is ∙ ap (λ (q : List ℕ). s.part ++ 45 ∷ 92 ∷ q) d ∙ sym (append_assoc s.part (45 ∷ 92 ∷ done) rest);
  count = refl;
  is = record {
    before = g;
    there = λ u more f. subst (λ (q : List ℕ). InsideStop left q) (sym (append_assoc s.part (45 ∷ 92 ∷ done) (u ∷ [])))
        (end_stops left (member.One low) (92 ∷ us) s (92 ∷ (done ++ u ∷ [])) (λ vs. (ap (λ (o : Option (Member × List ℕ)). range_at (member.One low) o) (escaped_is ((done ++ u ∷ []) ++ vs)) ∙ h u more f vs, refl)));
    reason = inr (inr (record {
      before = s.part ++ 45 ∷ [];
      part = done;
      is = sym (append_assoc s.part (45 ∷ []) (92 ∷ done));
      member = m;
      behind = behind;
      listed = subst (λ (q : List ℕ). escaped_member_at q ≡ Some (m, behind)) d e;
      later = l;
    }));
  };
}

-- a number that is high enough
pub number_goes : (left : List ℕ) (low : ℕ) (us : List ℕ) (s : Start left (member.One low) (92 ∷ us)) (done more : List ℕ) (n : ℕ) → low ≤ n → ((tail : List ℕ) → escaped_member_at (done ++ (more ++ tail)) ≡ Some (member.One n, 93 ∷ tail)) → InsideGo left (s.part ++ 45 ∷ 92 ∷ done)
number_goes left low us s done more n h e =
    end_goes left (member.One low) (92 ∷ us) s (92 ∷ done) more (member.One n) (item.Range low n) (λ tail. escaped_is (done ++ (more ++ tail)) ∙ e tail) (rw (le-leb low n h) refl)

pub low_number : (low n : ℕ) (us rest : List ℕ) → escaped_member_at us ≡ Some (member.One n, rest) → n < low → Low low us
low_number low n us rest e h = rw (e, lt-leb low n h) refl

pub low_none : (low : ℕ) (us : List ℕ) → escaped_member_at us ≡ None → Low low us
low_none low us e = rw e refl

-- ---- escapes but `\x` and `\u`

abbrev pub fixed_at : Bool → Option ClassEscape → Bool → Bool → Option ℕ → ℕ → List ℕ → Option (Member × List ℕ)
fixed_at a o b c k v ws = cond a (Some (member.One 8, ws)) (many_or o ws (one_of (cond b (null_at ws) (cond c (Some (v, ws)) (control_at k ws)))))

pub fixed_is : (v : ℕ) (ws : List ℕ) → (v == 120) ≡ false → (v == 117) ≡ false → escaped_member_at (v ∷ ws) ≡ fixed_at (v == 98) (class_escape_of v) (v == 48) (is_sign v) (control_of v) v ws
unfolding escaped_member_at character_at
fixed_is v ws d f = rw (d, f) refl

abbrev pub one_at : ℕ → List ℕ → Option (Member × List ℕ)
one_at m us = Some (member.One m, us)

same_number : (low m n : ℕ) (a b ws : List ℕ) → one_at m a ≡ one_at n b → nat_le low n ≡ false → range_at (member.One low) (one_at m ws) ≡ None
same_number low m n a b ws e h =
    let p : member.One m ≡ member.One n = (parts_same Member (List ℕ) (member.One m, a) (member.One n, b) e).0 in
    let same : m ≡ n = cc in
    rw (same, h) refl

pub fixed : (low high v : ℕ) (vs behind ws : List ℕ) (a : Bool) (o : Option ClassEscape) (b c : Bool) (k : Option ℕ) → fixed_at a o b c k v vs ≡ Some (member.One high, behind) → nat_le low high ≡ false → range_at (member.One low) (fixed_at a o b c k v ws) ≡ None
fixed low high v vs behind ws true o b c k e n = same_number low 8 high vs behind ws e n
fixed low high v vs behind ws false (Some x) b c k e n = absurd (let p = (parts_same Member (List ℕ) (member.Many x, vs) (member.One high, behind) e).0 in cc)
fixed low high v vs behind ws false None true c k e n = by (starts is_digit vs) (starts is_digit ws) e
  where
    by : (x y : Bool) → one_of (cond {A = Option (ℕ × List ℕ)} x None (Some (0, vs))) ≡ Some (member.One high, behind) → range_at (member.One low) (one_of (cond {A = Option (ℕ × List ℕ)} y None (Some (0, ws)))) ≡ None
    by true y e = absurd cc
    by false true e = refl
    by false false e = same_number low 0 high vs behind ws e n
fixed low high v vs behind ws false None false true k e n = same_number low v high vs behind ws e n
fixed low high v vs behind ws false None false false (Some x) e n = same_number low x high vs behind ws e n
fixed low high v vs behind ws false None false false None e n = absurd cc

abbrev NoDigit : List ℕ → List ℕ → Type 0
NoDigit a b = starts is_digit a ≡ false → starts is_digit b ≡ false

pub shorter : (v : ℕ) (vs : List ℕ) (m : Member) (behind : List ℕ) → escaped_member_at (v ∷ vs) ≡ Some (m, behind) → length behind < length (v ∷ vs)
shorter v vs m behind e =
    let c = fronts_escaped NoDigit (λ a b h. h) v vs m behind e in
    omega (arith, ap length c.parts, length-append c.part behind)

-- ---- hexadecimal digits

hexadecimal_high : (u : ℕ) → is_hexadecimal u ≡ true → u ≤ 102
unfolding is_hexadecimal is_digit
hexadecimal_high u e = by (nat_le 48 u) (nat_le u 57) (nat_le 65 u) (nat_le u 70) (nat_le 97 u) (nat_le u 102) refl refl refl e
  where
    by : (a b c d f g : Bool) → nat_le u 57 ≡ b → nat_le u 70 ≡ d → nat_le u 102 ≡ g → (((a && b) || (c && d)) || (f && g)) ≡ true → u ≤ 102
    by a true c d f g x y z e = let h = leb-true u 57 x in omega arith
    by a false c true f g x y z e = let h = leb-true u 70 y in omega arith
    by a false c false f true x y z e = leb-true u 102 z
    by true false true false true false x y z e = absurd cc
    by true false true false false false x y z e = absurd cc
    by true false false false true false x y z e = absurd cc
    by true false false false false false x y z e = absurd cc
    by false false true false true false x y z e = absurd cc
    by false false true false false false x y z e = absurd cc
    by false false false false true false x y z e = absurd cc
    by false false false false false false x y z e = absurd cc

pub digit_small : (u : ℕ) → is_hexadecimal u ≡ true → digit_value u ≤ 15
unfolding digit_value
digit_small u e = by (nat_le u 57) (nat_le u 70) refl refl
  where
    by : (a b : Bool) → nat_le u 57 ≡ a → nat_le u 70 ≡ b → cond a (u - 48) (cond b (u - 55) (u - 87)) ≤ 15
    by true b d f = let h = leb-true u 57 d in omega arith
    by false true d f = let h = leb-true u 70 f in omega arith
    by false false d f = let h = hexadecimal_high u e in omega arith

pub f_is : is_hexadecimal 70 ≡ true
unfolding is_hexadecimal is_digit
f_is = refl

pub f_value : digit_value 70 ≡ 15
unfolding digit_value
f_value = refl

pub value_is : (u : ℕ) → is_hexadecimal u ≡ true → hexadecimal_value u ≡ digit_value u
value_is u e = rw e refl

-- ---- `\x`

abbrev pub byte_of : ℕ → ℕ → ℕ
byte_of a b = digit_value a * 16 + digit_value b

pub byte_again : (a b : ℕ) (tail : List ℕ) → is_hexadecimal a ≡ true → is_hexadecimal b ≡ true → escaped_member_at (120 ∷ a ∷ b ∷ tail) ≡ Some (member.One (byte_of a b), tail)
unfolding escaped_member_at class_escape_of character_at byte_at
byte_again a b tail d e = rw (d, e) refl

pub record Byte (us : List ℕ) (m : Member) (behind : List ℕ) : Type 0 where
  pub a : ℕ
  pub b : ℕ
  pub is : us ≡ a ∷ b ∷ behind
  pub first : is_hexadecimal a ≡ true
  pub second : is_hexadecimal b ≡ true
  pub value : m ≡ member.One (byte_of a b)

pub byte_parts : (us : List ℕ) (m : Member) (behind : List ℕ) → escaped_member_at (120 ∷ us) ≡ Some (m, behind) → Byte us m behind
unfolding escaped_member_at class_escape_of character_at byte_at
byte_parts [] m behind e = absurd cc
byte_parts (a ∷ []) m behind e = absurd cc
byte_parts (a ∷ b ∷ us) m behind e = by (is_hexadecimal a) (is_hexadecimal b) refl refl e
  where
    by : (x y : Bool) → is_hexadecimal a ≡ x → is_hexadecimal b ≡ y → one_of (cond {A = Option (ℕ × List ℕ)} (x && y) (Some (byte_of a b, us)) None) ≡ Some (m, behind) → Byte (a ∷ b ∷ us) m behind
    by true true d f e = let p = parts_same Member (List ℕ) (member.One (byte_of a b), us) (m, behind) e in record { a = a; b = b; is = ap (λ (q : List ℕ). a ∷ b ∷ q) p.1; first = d; second = f; value = sym p.0 }
    by true false d f e = absurd cc
    by false y d f e = absurd cc

-- each number of two digits is below
pub bytes_low : (low : ℕ) (us : List ℕ) → ((a b : ℕ) (rest : List ℕ) → us ≡ a ∷ b ∷ rest → is_hexadecimal a ≡ true → is_hexadecimal b ≡ true → byte_of a b < low) → Low low (120 ∷ us)
bytes_low low us h = by (escaped_member_at (120 ∷ us)) refl
  where
    by : (o : Option (Member × List ℕ)) → escaped_member_at (120 ∷ us) ≡ o → Low low (120 ∷ us)
    by None e = low_none low (120 ∷ us) e
    by (Some x) e =
        let p = byte_parts us x.0 x.1 e in
        low_number low (byte_of p.a p.b) (120 ∷ us) x.1 (e ∙ ap (λ (q : Member). Some (q, x.1)) p.value) (h p.a p.b x.1 p.is p.first p.second)

-- ---- `\u`

abbrev pub unit_of : ℕ → ℕ → ℕ → ℕ → ℕ
unit_of a b c d = digit_value a * 4096 + digit_value b * 256 + digit_value c * 16 + digit_value d

pub unit_again : (a b c d : ℕ) (tail : List ℕ) → is_hexadecimal a ≡ true → is_hexadecimal b ≡ true → is_hexadecimal c ≡ true → is_hexadecimal d ≡ true → escaped_member_at (117 ∷ a ∷ b ∷ c ∷ d ∷ tail) ≡ Some (member.One (unit_of a b c d), tail)
unfolding escaped_member_at class_escape_of character_at unit_at
unit_again a b c d tail e f g h = rw (e, f, g, h) refl

pub record Four (us : List ℕ) (m : Member) (behind : List ℕ) : Type 0 where
  pub a : ℕ
  pub b : ℕ
  pub c : ℕ
  pub d : ℕ
  pub is : us ≡ a ∷ b ∷ c ∷ d ∷ behind
  pub first : is_hexadecimal a ≡ true
  pub second : is_hexadecimal b ≡ true
  pub third : is_hexadecimal c ≡ true
  pub fourth : is_hexadecimal d ≡ true
  pub value : m ≡ member.One (unit_of a b c d)

pub four_parts : (us : List ℕ) (m : Member) (behind : List ℕ) → escaped_member_at (117 ∷ us) ≡ Some (m, behind) → Four us m behind
unfolding escaped_member_at class_escape_of character_at unit_at
four_parts [] m behind e = absurd cc
four_parts (a ∷ []) m behind e = absurd cc
four_parts (a ∷ b ∷ []) m behind e = absurd cc
four_parts (a ∷ b ∷ c ∷ []) m behind e = absurd cc
four_parts (a ∷ b ∷ c ∷ d ∷ us) m behind e = by (is_hexadecimal a) (is_hexadecimal b) (is_hexadecimal c) (is_hexadecimal d) refl refl refl refl e
  where
    by : (w x y z : Bool) → is_hexadecimal a ≡ w → is_hexadecimal b ≡ x → is_hexadecimal c ≡ y → is_hexadecimal d ≡ z → one_of (cond {A = Option (ℕ × List ℕ)} (w && x && y && z) (Some (unit_of a b c d, us)) None) ≡ Some (m, behind) → Four (a ∷ b ∷ c ∷ d ∷ us) m behind
    by true true true true f g h i e = let p = parts_same Member (List ℕ) (member.One (unit_of a b c d), us) (m, behind) e in record { a = a; b = b; c = c; d = d; is = ap (λ (q : List ℕ). a ∷ b ∷ c ∷ d ∷ q) p.1; first = f; second = g; third = h; fourth = i; value = sym p.0 }
    by true true true false f g h i e = absurd cc
    by true true false true f g h i e = absurd cc
    by true true false false f g h i e = absurd cc
    by true false true true f g h i e = absurd cc
    by true false true false f g h i e = absurd cc
    by true false false true f g h i e = absurd cc
    by true false false false f g h i e = absurd cc
    by false true true true f g h i e = absurd cc
    by false true true false f g h i e = absurd cc
    by false true false true f g h i e = absurd cc
    by false true false false f g h i e = absurd cc
    by false false true true f g h i e = absurd cc
    by false false true false f g h i e = absurd cc
    by false false false true f g h i e = absurd cc
    by false false false false f g h i e = absurd cc

pub units_low : (low : ℕ) (us : List ℕ) → ((a b c d : ℕ) (rest : List ℕ) → us ≡ a ∷ b ∷ c ∷ d ∷ rest → is_hexadecimal a ≡ true → is_hexadecimal b ≡ true → is_hexadecimal c ≡ true → is_hexadecimal d ≡ true → unit_of a b c d < low) → Low low (117 ∷ us)
units_low low us h = by (escaped_member_at (117 ∷ us)) refl
  where
    by : (o : Option (Member × List ℕ)) → escaped_member_at (117 ∷ us) ≡ o → Low low (117 ∷ us)
    by None e = low_none low (117 ∷ us) e
    by (Some x) e =
        let p = four_parts us x.0 x.1 e in
        low_number low (unit_of p.a p.b p.c p.d) (117 ∷ us) x.1 (e ∙ ap (λ (q : Member). Some (q, x.1)) p.value) (h p.a p.b p.c p.d x.1 p.is p.first p.second p.third p.fourth)
