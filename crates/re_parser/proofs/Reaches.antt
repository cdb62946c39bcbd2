-- How far an escape reaches: not up to a unit that is no hexadecimal digit, unless that is its first one.
use Rattle.std.proofs.Common.{◌≡◌, ℕ, ◌+◌, ◌<◌, ◌≤◌, Bool, true, false, cond, List, [], ◌∷◌, ◌++◌, length, Option, Some, None, refl, sym, ap, subst, ◌∙◌, append_assoc, arith}
use Rattle.std.specs.Prelude.{◌==◌, ◌&&◌, ◌||◌, ◌*◌, nat_le}
use Rattle.std.proofs.lemmas.Bool.{lt-leb}
use Rattle.std.proofs.lemmas.List.{length-append}
use Rattle.js_units.specs.Characters.{is_digit, is_hexadecimal, digit_value, is_letter}
use Rattle.re_parser.specs.Characters.{is_sign, control_of}
use Rattle.re_parser.specs.Escapes.{starts, byte_at, unit_at, null_at, control_at, character_at, class_escape_of, one_of, many_or, escaped_member_at}
use Rattle.re_parser.specs.Quantifiers.{digits_from}
use Rattle.re_parser.specs.Pieces.{character_piece, class_escape_or, back_piece, escape_at}
use Rattle.re_parser.specs.Places.{NoEscape}
use Rattle.re_parser.specs.declared.kinds.ClassEscape.{ClassEscape}
use Rattle.re_parser.specs.declared.kinds.Assertion.TheVariants as assertion
use Rattle.re_parser.specs.declared.kinds.Member.{Member}
use Rattle.re_parser.specs.declared.kinds.Member.TheVariants as member
use Rattle.re_parser.specs.declared.kinds.Piece.{Piece}
use Rattle.re_parser.specs.declared.kinds.Piece.TheVariants as piece
use Rattle.re_parser.proofs.Members.{parts_same}
use Rattle.re_parser.proofs.Cuts.{fronts_character}

-- ---- units that begin as others do

pub record Reach (a b c d : List ℕ) : Type 0 where
  pub part : List ℕ
  pub front : c ≡ a ++ part
  pub rest : b ≡ part ++ d

pub reach : (a b c d : List ℕ) → a ++ b ≡ c ++ d → length a ≤ length c → Reach a b c d
reach [] b c d e h = record { part = c; front = refl; rest = e }
reach (x ∷ a) b [] d e h = absurd (omega (arith, h))
reach (x ∷ a) b (y ∷ c) d e h =
    let same : x ≡ y = cc in
    let others : a ++ b ≡ c ++ d = cc in
    let r = reach a b c d others (omega (arith, h)) in
    record { part = r.part; front = ap (λ (q : ℕ). q ∷ c) (sym same) ∙ ap (λ (q : List ℕ). x ∷ q) r.front; rest = r.rest }

-- one unit further
pub further : (a : List ℕ) (x : ℕ) (b c d : List ℕ) → a ++ x ∷ b ≡ c ++ d → length a < length c → Reach (a ++ x ∷ []) b c d
further a x b c d e h = reach (a ++ x ∷ []) b c d (append_assoc a (x ∷ []) b ∙ e) (omega (arith, h, length-append a (x ∷ [])))

-- ---- units that are no hexadecimal digits

pub no_digit : (u : ℕ) → is_hexadecimal u ≡ false → is_digit u ≡ false
unfolding is_hexadecimal
no_digit u h = by (is_digit u) h
  where
    by : (c : Bool) → ((c || (nat_le 65 u && nat_le u 70)) || (nat_le 97 u && nat_le u 102)) ≡ false → c ≡ false
    by true e = absurd cc
    by false e = refl

pub outside_digit : (u : ℕ) → 128 ≤ u → is_hexadecimal u ≡ false
unfolding is_hexadecimal is_digit
outside_digit u h = rw (lt-leb u 57 (omega arith), lt-leb u 70 (omega arith), lt-leb u 102 (omega arith)) (by (nat_le 48 u) (nat_le 65 u) (nat_le 97 u))
  where
    by : (a b c : Bool) → (((a && false) || (b && false)) || (c && false)) ≡ false
    by true true true = refl
    by true true false = refl
    by true false true = refl
    by true false false = refl
    by false true true = refl
    by false true false = refl
    by false false true = refl
    by false false false = refl

-- ---- where what is read ends

abbrev pub Ends : (V : Type 0) → (List ℕ → Option (V × List ℕ)) → Type 0
Ends V F = (w : List ℕ) (x : ℕ) (z : List ℕ) (v : V) (rest : List ℕ) → is_hexadecimal x ≡ false → F (w ++ x ∷ z) ≡ Some (v, rest) → length z < length rest

ends_none : (V : Type 0) → Ends V (λ (us : List ℕ). None)
ends_none V w x z v rest h e = absurd cc

some_ends : (V : Type 0) (y v : V) (w : List ℕ) (x : ℕ) (z rest : List ℕ) → ◌≡◌ {A = Option (V × List ℕ)} (Some (y, w ++ x ∷ z)) (Some (v, rest)) → length z < length rest
some_ends V y v w x z rest e = omega (arith, length-append w (x ∷ z), ap length (parts_same V (List ℕ) (y, w ++ x ∷ z) (v, rest) e).1)

ends_some : (V : Type 0) (y : V) → Ends V (λ (us : List ℕ). Some (y, us))
ends_some V y w x z v rest h e = some_ends V y v w x z rest e

ends_cond : (V : Type 0) (c : Bool) (F G : List ℕ → Option (V × List ℕ)) → Ends V F → Ends V G → Ends V (λ (us : List ℕ). cond c (F us) (G us))
ends_cond V true F G f g = f
ends_cond V false F G f g = g

ends_map : (V W : Type 0) (F : List ℕ → Option (V × List ℕ)) (f : V → W) (G : Option (V × List ℕ) → Option (W × List ℕ)) → G None ≡ None → ((x : V) (us : List ℕ) → G (Some (x, us)) ≡ Some (f x, us)) → Ends V F → Ends W (λ (us : List ℕ). G (F us))
ends_map V W F f G n s h w x z v rest d e = by (F (w ++ x ∷ z)) refl e
  where
    by : (o : Option (V × List ℕ)) → F (w ++ x ∷ z) ≡ o → G o ≡ Some (v, rest) → length z < length rest
    by None k e = absurd cc
    by (Some y) k e =
        let less = h w x z y.0 y.1 d k in
        let same = (parts_same W (List ℕ) (f y.0, y.1) (v, rest) (sym (s y.0 y.1) ∙ e)).1 in
        subst (λ (q : List ℕ). length z < length q) same less

-- the digits of a byte and of a unit
if_false : (V : Type 0) (c : Bool) (x : V) (v : V) → c ≡ false → cond {A = Option V} c (Some x) None ≡ Some v → ⊥
if_false V true x v h e = cc
if_false V false x v h e = cc

behind_digits : (c : Bool) (n v : ℕ) (w : List ℕ) (x : ℕ) (z rest : List ℕ) → cond {A = Option (ℕ × List ℕ)} c (Some (n, w ++ x ∷ z)) None ≡ Some (v, rest) → length z < length rest
behind_digits true n v w x z rest e = some_ends ℕ n v w x z rest e
behind_digits false n v w x z rest e = absurd cc

ends_byte : Ends ℕ byte_at
unfolding byte_at
ends_byte [] x [] v rest h e = absurd cc
ends_byte [] x (b ∷ z) v rest h e = absurd (if_false (ℕ × List ℕ) (is_hexadecimal x && is_hexadecimal b) (digit_value x * 16 + digit_value b, z) (v, rest) (rw h refl) e)
ends_byte (a ∷ []) x z v rest h e = absurd (if_false (ℕ × List ℕ) (is_hexadecimal a && is_hexadecimal x) (digit_value a * 16 + digit_value x, z) (v, rest) (second (is_hexadecimal a) (is_hexadecimal x) h) e)
  where
    second : (a b : Bool) → b ≡ false → (a && b) ≡ false
    second true b h = h
    second false b h = refl
ends_byte (a ∷ b ∷ w) x z v rest h e = behind_digits (is_hexadecimal a && is_hexadecimal b) (digit_value a * 16 + digit_value b) v w x z rest e

-- one of four isn't true
four_false : (a b c d : Bool) → ((a ≡ true) → (b ≡ true) → (c ≡ true) → (d ≡ true) → ⊥) → (a && b && c && d) ≡ false
four_false true true true true n = absurd (n refl refl refl refl)
four_false false b c d n = refl
four_false true false c d n = refl
four_false true true false d n = refl
four_false true true true false n = refl

unit_none : (a b c d : ℕ) (z rest : List ℕ) (v : ℕ) → ((is_hexadecimal a ≡ true) → (is_hexadecimal b ≡ true) → (is_hexadecimal c ≡ true) → (is_hexadecimal d ≡ true) → ⊥) → unit_at (a ∷ b ∷ c ∷ d ∷ z) ≡ Some (v, rest) → ⊥
unfolding unit_at
unit_none a b c d z rest v n e =
    if_false (ℕ × List ℕ) (is_hexadecimal a && is_hexadecimal b && is_hexadecimal c && is_hexadecimal d) (digit_value a * 4096 + digit_value b * 256 + digit_value c * 16 + digit_value d, z) (v, rest)
    (four_false (is_hexadecimal a) (is_hexadecimal b) (is_hexadecimal c) (is_hexadecimal d) n) e

isnt : (x : ℕ) → is_hexadecimal x ≡ false → is_hexadecimal x ≡ true → ⊥
isnt x h e = let both : false ≡ true = sym h ∙ e in cc

ends_unit : Ends ℕ unit_at
unfolding unit_at
ends_unit [] x [] v rest h e = absurd cc
ends_unit [] x (b ∷ []) v rest h e = absurd cc
ends_unit [] x (b ∷ c ∷ []) v rest h e = absurd cc
ends_unit [] x (b ∷ c ∷ d ∷ z) v rest h e = absurd (unit_none x b c d z rest v (λ p q r s. isnt x h p) e)
ends_unit (a ∷ []) x [] v rest h e = absurd cc
ends_unit (a ∷ []) x (c ∷ []) v rest h e = absurd cc
ends_unit (a ∷ []) x (c ∷ d ∷ z) v rest h e = absurd (unit_none a x c d z rest v (λ p q r s. isnt x h q) e)
ends_unit (a ∷ b ∷ []) x [] v rest h e = absurd cc
ends_unit (a ∷ b ∷ []) x (d ∷ z) v rest h e = absurd (unit_none a b x d z rest v (λ p q r s. isnt x h r) e)
ends_unit (a ∷ b ∷ c ∷ []) x z v rest h e = absurd (unit_none a b c x z rest v (λ p q r s. isnt x h s) e)
ends_unit (a ∷ b ∷ c ∷ d ∷ w) x z v rest h e = behind_digits (is_hexadecimal a && is_hexadecimal b && is_hexadecimal c && is_hexadecimal d) (digit_value a * 4096 + digit_value b * 256 + digit_value c * 16 + digit_value d) v w x z rest e

ends_null : Ends ℕ null_at
ends_null w x z v rest h e = by (starts is_digit (w ++ x ∷ z)) e
  where
    by : (c : Bool) → cond {A = Option (ℕ × List ℕ)} c None (Some (0, w ++ x ∷ z)) ≡ Some (v, rest) → length z < length rest
    by true e = absurd cc
    by false e = ends_some ℕ 0 w x z v rest h e

ends_control : (o : Option ℕ) → Ends ℕ (λ (us : List ℕ). control_at o us)
ends_control None = ends_none ℕ
ends_control (Some u) = ends_some ℕ u

ends_character : (u : ℕ) → Ends ℕ (λ (us : List ℕ). character_at (u ∷ us))
unfolding character_at
ends_character u =
    ends_cond ℕ (u == 120) byte_at (λ (us : List ℕ). cond (u == 117) (unit_at us) (cond (u == 48) (null_at us) (cond (is_sign u) (Some (u, us)) (control_at (control_of u) us)))) ends_byte
    (ends_cond ℕ (u == 117) unit_at (λ (us : List ℕ). cond (u == 48) (null_at us) (cond (is_sign u) (Some (u, us)) (control_at (control_of u) us))) ends_unit
    (ends_cond ℕ (u == 48) null_at (λ (us : List ℕ). cond (is_sign u) (Some (u, us)) (control_at (control_of u) us)) ends_null
    (ends_cond ℕ (is_sign u) (λ (us : List ℕ). Some (u, us)) (λ (us : List ℕ). control_at (control_of u) us) (ends_some ℕ u) (ends_control (control_of u)))))

ends_many : (o : Option ClassEscape) (F : List ℕ → Option (Member × List ℕ)) → Ends Member F → Ends Member (λ (us : List ℕ). many_or o us (F us))
ends_many None F f = f
ends_many (Some e) F f = ends_some Member (member.Many e)

pub ends_member : (u : ℕ) → Ends Member (λ (us : List ℕ). escaped_member_at (u ∷ us))
unfolding escaped_member_at
ends_member u =
    ends_cond Member (u == 98) (λ (us : List ℕ). Some (member.One 8, us)) (λ (us : List ℕ). many_or (class_escape_of u) us (one_of (character_at (u ∷ us)))) (ends_some Member (member.One 8))
    (ends_many (class_escape_of u) (λ (us : List ℕ). one_of (character_at (u ∷ us))) (ends_map ℕ Member (λ (us : List ℕ). character_at (u ∷ us)) (λ (x : ℕ). member.One x) one_of refl (λ x us. refl) (ends_character u)))

-- ---- an escape that isn't listed isn't listed with such a unit in place of what is behind, either

abbrev NoDigit : List ℕ → List ℕ → Type 0
NoDigit a b = starts is_digit a ≡ false → starts is_digit b ≡ false

no_digit_behind : (part a b y : List ℕ) → y ≡ part ++ a → starts is_digit b ≡ false → NoDigit y (part ++ b)
no_digit_behind [] a b y e d n = d
no_digit_behind (u ∷ part) a b y e d n = subst (λ (q : List ℕ). starts is_digit q ≡ false) e n

no_character : (c : ℕ) (w rest : List ℕ) (x : ℕ) (z : List ℕ) → character_at (c ∷ w ++ rest) ≡ None → is_hexadecimal x ≡ false → starts is_digit rest ≡ false → character_at (c ∷ w ++ x ∷ z) ≡ None
no_character c w rest x z e h d = by (character_at (c ∷ w ++ x ∷ z)) refl
  where
    listed : (y : ℕ × List ℕ) → character_at (c ∷ w ++ x ∷ z) ≡ Some y → ⊥
    listed y f =
        let less = ends_character c w x z y.0 y.1 h f in
        let k = fronts_character NoDigit (λ a b n. n) c (w ++ x ∷ z) y.0 y.1 f in
        let r = reach k.part y.1 w (x ∷ z) (sym k.parts) (omega (arith, less, ap length k.parts, length-append w (x ∷ z), length-append k.part y.1)) in
        let again : character_at (c ∷ k.part ++ (r.part ++ rest)) ≡ Some (y.0, r.part ++ rest) = k.again (r.part ++ rest) (no_digit_behind r.part (x ∷ z) rest y.1 r.rest d) in
        let same : k.part ++ (r.part ++ rest) ≡ w ++ rest = sym (append_assoc k.part r.part rest) ∙ ap (λ (q : List ℕ). q ++ rest) (sym r.front) in
        let none : character_at (c ∷ k.part ++ (r.part ++ rest)) ≡ None = ap (λ (q : List ℕ). character_at (c ∷ q)) same ∙ e in
        let both : ◌≡◌ {A = Option (ℕ × List ℕ)} (Some (y.0, r.part ++ rest)) None = sym again ∙ none in
        cc

    by : (o : Option (ℕ × List ℕ)) → character_at (c ∷ w ++ x ∷ z) ≡ o → o ≡ None
    by None f = refl
    by (Some y) f = absurd (listed y f)

-- how an escape that isn't listed begins
record Unread (c : ℕ) (us : List ℕ) : Type 0 where
  pub backspace : (c == 98) ≡ false
  pub boundary : (c == 66) ≡ false
  pub back : (nat_le 49 c && nat_le c 57) ≡ false
  pub class : class_escape_of c ≡ None
  pub character : character_at (c ∷ us) ≡ None

unread : (c : ℕ) (us : List ℕ) → escape_at (c ∷ us) ≡ None → Unread c us
unfolding escape_at
unread c us e = by (c == 98) (c == 66) (nat_le 49 c && nat_le c 57) (class_escape_of c) (character_at (c ∷ us)) refl refl refl refl refl e
  where
    by : (p q r : Bool) (o : Option ClassEscape) (x : Option (ℕ × List ℕ)) → (c == 98) ≡ p → (c == 66) ≡ q → (nat_le 49 c && nat_le c 57) ≡ r → class_escape_of c ≡ o → character_at (c ∷ us) ≡ x → cond {A = Option (Piece × List ℕ)} p (Some (piece.Assertion assertion.Word, us)) (cond q (Some (piece.Assertion assertion.NotWord, us)) (cond r (back_piece (digits_from 0 (c ∷ us))) (class_escape_or o us (character_piece x)))) ≡ None → Unread c us
    by true q r o x f g h i j e = absurd cc
    by false true r o x f g h i j e = absurd cc
    by false false true o x f g h i j e = absurd cc
    by false false false (Some k) x f g h i j e = absurd cc
    by false false false None (Some k) f g h i j e = absurd cc
    by false false false None None f g h i j e = record { backspace = f; boundary = g; back = h; class = i; character = j }

none_read : (c : ℕ) (us : List ℕ) → Unread c us → (escape_at (c ∷ us) ≡ None) × (escaped_member_at (c ∷ us) ≡ None)
unfolding escape_at escaped_member_at
none_read c us u = (rw (u.backspace, u.boundary, u.back, u.class, u.character) refl, rw (u.backspace, u.class, u.character) refl)

pub no_escape : (c : ℕ) (w rest : List ℕ) (x : ℕ) → escape_at (c ∷ w ++ rest) ≡ None → is_hexadecimal x ≡ false → starts is_digit rest ≡ false → NoEscape (c ∷ w ++ x ∷ [])
no_escape c w rest x e h d more =
    let u = unread c (w ++ rest) e in
    none_read c ((w ++ x ∷ []) ++ more) (record {
      backspace = u.backspace;
      boundary = u.boundary;
      back = u.back;
      class = u.class;
      character = ap (λ (q : List ℕ). character_at (c ∷ q)) (append_assoc w (x ∷ []) more) ∙ no_character c w rest x more u.character h d;
    })

-- what a class lists is listed outside of one
pub member_listed : (us : List ℕ) (x : Member × List ℕ) → escaped_member_at us ≡ Some x → escape_at us ≡ None → ⊥
unfolding escaped_member_at
member_listed [] x e n = cc
member_listed (c ∷ us) x e n = let none = (none_read c us (unread c us n)).1 in cc

-- ---- units that stand for themselves behind a `\`

pub record IsSign (u : ℕ) : Type 0 where
  pub plain : is_hexadecimal u ≡ false
  pub listed : (us : List ℕ) → escaped_member_at (u ∷ us) ≡ Some (member.One u, us)

pub parenthesis : IsSign 40
unfolding is_hexadecimal is_digit escaped_member_at class_escape_of character_at is_sign is_letter
parenthesis = record { plain = refl; listed = λ us. refl }

pub hyphen : IsSign 45
unfolding is_hexadecimal is_digit escaped_member_at class_escape_of character_at is_sign is_letter
hyphen = record { plain = refl; listed = λ us. refl }

pub question : IsSign 63
unfolding is_hexadecimal is_digit escaped_member_at class_escape_of character_at is_sign is_letter
question = record { plain = refl; listed = λ us. refl }

pub backslash : IsSign 92
unfolding is_hexadecimal is_digit escaped_member_at class_escape_of character_at is_sign is_letter
backslash = record { plain = refl; listed = λ us. refl }
