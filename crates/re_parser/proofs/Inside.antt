-- What goes on inside a class, and what doesn't.
use Rattle.std.proofs.Common.{◌≡◌, ℕ, ◌+◌, ◌<◌, ◌≤◌, Bool, true, false, cond, List, [], ◌∷◌, ◌++◌, length, Option, Some, None, refl, sym, ap, subst, append_assoc, arith, inl, inr}
use Rattle.std.specs.Prelude.{◌⊎◌, ◌==◌, ◌&&◌, ◌||◌, not, nat_le, nat_lt}
use Rattle.std.proofs.lemmas.Bool.{and_parts, eqb-true, ne_eqb, leb-true, le-leb}
use Rattle.re_parser.specs.Agreement.{AgreeInside, is_caret}
use Rattle.js_units.specs.Characters.{is_letter, is_digit}
use Rattle.re_parser.specs.Characters.{is_sign, control_of}
use Rattle.re_parser.specs.Classes.{IsMembers, members_end, members_more, NoMembers, close_at}
use Rattle.re_parser.specs.Escapes.{starts, is_close, begins_range, character_at, class_escape_of, one_of, many_or, escaped_member_at, member_at, range_of, range_at, item_at, item_units}
use Rattle.re_parser.specs.Pieces.{escape_at}
use Rattle.re_parser.specs.Places.{IsBadEscape}
use Rattle.re_parser.specs.declared.kinds.ClassEscape.{ClassEscape}
use Rattle.re_parser.specs.declared.kinds.ClassEscape.TheVariants as escape
use Rattle.re_parser.specs.declared.kinds.ClassItem.{ClassItem}
use Rattle.re_parser.specs.declared.kinds.ClassItem.TheVariants as item
use Rattle.re_parser.specs.declared.kinds.Member.{Member}
use Rattle.re_parser.specs.declared.kinds.Member.TheVariants as member
use Rattle.re_parser.proofs.Members.{parts_same, members_stop, close_isnt}
use Rattle.re_parser.proofs.Cuts.{cuts_member, item_range, no_close}
use Rattle.re_parser.proofs.Agreeing.{inside_two}
use Rattle.re_parser.proofs.Passing.{InsideGo, InsideStop}
use Rattle.re_parser.proofs.Refusals.{outside_character}

-- ---- an item and `]`, and none

pub one_item : (units : List ℕ) (i : ClassItem) (tail : List ℕ) → item_at units ≡ Some (i, 93 ∷ tail) → IsMembers units (item_units i ++ []) tail
one_item units i tail e = members_more units i (93 ∷ tail) [] tail e (members_end (93 ∷ tail) tail refl)

close_none : (units : List ℕ) → starts is_close units ≡ false → close_at units ≡ None
close_none [] e = refl
close_none (u ∷ us) e = rw e refl

pub none_members : (units : List ℕ) → item_at units ≡ None → starts is_close units ≡ false → NoMembers units
none_members units e s all rest h = close_isnt units rest (close_none units s) (members_stop units all rest h e).1

-- ---- behind the start of a range

pub record Start (left : List ℕ) (x : Member) (end : List ℕ) : Type 0 where
  pub part : List ℕ
  pub some : 0 < length part
  pub is : left ≡ part ++ 45 ∷ end
  pub again : (more : List ℕ) → member_at (part ++ 45 ∷ more) ≡ Some (x, 45 ∷ more)

abbrev NoDigit : List ℕ → List ℕ → Type 0
NoDigit a b = starts is_digit a ≡ false → starts is_digit b ≡ false

hyphen_digit : is_digit 45 ≡ false
unfolding is_digit
hyphen_digit = refl

member_hyphen : (end : List ℕ) (x : Member) → member_at (45 ∷ end) ≡ Some (x, 45 ∷ end) → ⊥
unfolding member_at
member_hyphen end x e = let same : end ≡ 45 ∷ end = (parts_same Member (List ℕ) (member.One 45, end) (x, 45 ∷ end) e).1 in omega (arith, ap length same)

pub start_of : (left : List ℕ) (x : Member) (end : List ℕ) → member_at left ≡ Some (x, 45 ∷ end) → Start left x end
start_of left x end e =
    let c = cuts_member NoDigit (λ a b k. k) left x (45 ∷ end) e in
    record { part = c.part; some = long c.part c.parts; is = c.parts; again = λ more. c.again (45 ∷ more) (λ k. hyphen_digit) }
  where
    long : (part : List ℕ) → left ≡ part ++ 45 ∷ end → 0 < length part
    long [] d = absurd (member_hyphen end x (subst (λ (q : List ℕ). member_at q ≡ Some (x, 45 ∷ end)) d e))
    long (u ∷ part) d = omega arith

start_agree : (part a b : List ℕ) → 0 < length part → AgreeInside (part ++ 45 ∷ a) (part ++ 45 ∷ b)
start_agree [] a b h = absurd (omega arith)
start_agree (c ∷ []) a b h = inside_two c 45 a b
start_agree (c ∷ d ∷ part) a b h = inside_two c d (part ++ 45 ∷ a) (part ++ 45 ∷ b)

start_caret : (part x y : List ℕ) → 0 < length part → starts is_caret (part ++ x) ≡ false → starts is_caret ((part ++ x) ++ y) ≡ false
start_caret [] x y h e = absurd (omega arith)
start_caret (u ∷ part) x y h e = e

agree_front : (left : List ℕ) (x : Member) (end : List ℕ) (s : Start left x end) (y more : List ℕ) → AgreeInside left ((s.part ++ 45 ∷ y) ++ more)
agree_front left x end s y more =
    subst (λ (q : List ℕ). AgreeInside left q) (sym (append_assoc s.part (45 ∷ y) more)) (subst (λ (q : List ℕ). AgreeInside q (s.part ++ 45 ∷ (y ++ more))) (sym s.is) (start_agree s.part end (y ++ more) s.some))

-- the end goes on
pub end_goes : (left : List ℕ) (x : Member) (end : List ℕ) (s : Start left x end) (y more : List ℕ) (m : Member) (i : ClassItem) → ((tail : List ℕ) → member_at (y ++ (more ++ tail)) ≡ Some (m, 93 ∷ tail)) → range_of x m ≡ Some i → InsideGo left (s.part ++ 45 ∷ y)
end_goes left x end s y more m i e r = record {
  more = more;
  caret = λ k tail. start_caret s.part (45 ∷ y) (more ++ tail) s.some k;
  agrees = λ tail. agree_front left x end s y (more ++ tail);
  ranges = item_units i ++ [];
  members = λ tail.
      let range : range_at x (member_at (y ++ (more ++ tail))) ≡ Some (i, 93 ∷ tail) = rw (e tail, r) refl in
      let there = item_range (s.part ++ 45 ∷ (y ++ (more ++ tail))) x (y ++ (more ++ tail)) (Some (i, 93 ∷ tail)) (s.again (y ++ (more ++ tail))) (no_close (y ++ (more ++ tail)) (m, 93 ∷ tail) (e tail)) range in
      subst (λ (q : List ℕ). IsMembers q (item_units i ++ []) tail) (sym (append_assoc s.part (45 ∷ y) (more ++ tail))) (one_item (s.part ++ 45 ∷ (y ++ (more ++ tail))) i tail there);
}

-- it doesn't
pub end_stops : (left : List ℕ) (x : Member) (end : List ℕ) (s : Start left x end) (y : List ℕ) → ((more : List ℕ) → (range_at x (member_at (y ++ more)) ≡ None) × (starts is_close (y ++ more) ≡ false)) → InsideStop left (s.part ++ 45 ∷ y)
end_stops left x end s y h more =
    let none = item_range (s.part ++ 45 ∷ (y ++ more)) x (y ++ more) None (s.again (y ++ more)) (h more).1 (h more).0 in
    let first = no_close (s.part ++ 45 ∷ (y ++ more)) (x, 45 ∷ (y ++ more)) (s.again (y ++ more)) in
    (agree_front left x end s y more, subst (λ (q : List ℕ). NoMembers q) (sym (append_assoc s.part (45 ∷ y) more)) (none_members (s.part ++ 45 ∷ (y ++ more)) none first))

-- a class escape ends no range, and stands there for itself
pub apart : Member → ClassItem
apart x = item.Apart x (member.Many escape.Digit)

pub apart_is : (x : Member) → range_of x (member.Many escape.Digit) ≡ Some (apart x)
unfolding apart
apart_is (member.One a) = refl
apart_is (member.Many e) = refl

digit_member : (tail : List ℕ) → member_at (92 ∷ 100 ∷ 93 ∷ tail) ≡ Some (member.Many escape.Digit, 93 ∷ tail)
unfolding member_at escaped_member_at class_escape_of
digit_member tail = refl

-- a unit outside of ASCII that is high enough
pub high_unit : Member → ℕ
high_unit (member.One a) = 128 + a
high_unit (member.Many e) = 128

pub high_item : Member → ClassItem
high_item (member.One a) = item.Range a (128 + a)
high_item (member.Many e) = item.Apart (member.Many e) (member.One 128)

pub high_outside : (x : Member) → 128 ≤ high_unit x
unfolding high_unit
high_outside (member.One a) = omega arith
high_outside (member.Many e) = omega arith

pub high_is : (x : Member) → range_of x (member.One (high_unit x)) ≡ Some (high_item x)
unfolding high_unit high_item
high_is (member.One a) = rw (le-leb a (128 + a) (omega arith)) refl
high_is (member.Many e) = refl

pub plain_member : (u : ℕ) (more : List ℕ) → (u == 92) ≡ false → (u == 93) ≡ false → member_at (u ∷ more) ≡ Some (member.One u, more)
unfolding member_at
plain_member u more a b = rw (a, b) refl

pub high_goes : (left : List ℕ) (x : Member) (end : List ℕ) (s : Start left x end) → InsideGo left ((s.part ++ 45 ∷ []) ++ high_unit x ∷ [])
high_goes left x end s =
    subst (λ (q : List ℕ). InsideGo left q) (sym (append_assoc s.part (45 ∷ []) (high_unit x ∷ [])))
    (end_goes left x end s (high_unit x ∷ []) (93 ∷ []) (member.One (high_unit x)) (high_item x) (λ tail. let h = high_outside x in plain_member (high_unit x) (93 ∷ tail) (ne_eqb (high_unit x) 92 (λ k. omega arith)) (ne_eqb (high_unit x) 93 (λ k. omega arith))) (high_is x))

pub escape_goes : (left : List ℕ) (x : Member) (end : List ℕ) (s : Start left x end) → InsideGo left (s.part ++ 45 ∷ 92 ∷ [])
escape_goes left x end s = end_goes left x end s (92 ∷ []) (100 ∷ 93 ∷ []) (member.Many escape.Digit) (apart x) digit_member (apart_is x)

pub start_goes : (left : List ℕ) (x : Member) (end : List ℕ) (s : Start left x end) → InsideGo left (s.part ++ 45 ∷ [])
start_goes left x end s = end_goes left x end s [] (92 ∷ 100 ∷ 93 ∷ []) (member.Many escape.Digit) (apart x) digit_member (apart_is x)

-- ---- escapes that aren't listed

pub outside_member : (u : ℕ) (us : List ℕ) → 128 ≤ u → escaped_member_at (u ∷ us) ≡ None
unfolding escaped_member_at class_escape_of
outside_member u us h = rw (ne_eqb u 98 (λ e. omega arith)) (rw (ne_eqb u 100 (λ e. omega arith), ne_eqb u 68 (λ e. omega arith), ne_eqb u 115 (λ e. omega arith), ne_eqb u 83 (λ e. omega arith), ne_eqb u 119 (λ e. omega arith), ne_eqb u 87 (λ e. omega arith), outside_character u us h) refl)

no_boundary : (us : List ℕ) → escaped_member_at (66 ∷ us) ≡ None
unfolding escaped_member_at class_escape_of character_at is_sign is_letter is_digit control_of
no_boundary us = refl

digit_sign : (u : ℕ) → is_digit u ≡ true → is_sign u ≡ false
unfolding is_sign
digit_sign u e = rw e (by (nat_lt u 128) (is_letter u) (u == 95))
  where
    by : (a b c : Bool) → (a && not ((b || true) || c)) ≡ false
    by true true c = refl
    by true false c = refl
    by false true c = refl
    by false false c = refl

digit_is : (u : ℕ) → (nat_le 49 u && nat_le u 57) ≡ true → is_digit u ≡ true
unfolding is_digit
digit_is u e =
    let p = and_parts (nat_le 49 u) (nat_le u 57) e in
    let low : nat_le 48 u ≡ true = le-leb 48 u (omega (arith, leb-true 49 u p.0)) in
    rw (low, p.1) refl

no_reference : (u : ℕ) (us : List ℕ) → (nat_le 49 u && nat_le u 57) ≡ true → escaped_member_at (u ∷ us) ≡ None
unfolding escaped_member_at class_escape_of character_at control_of
no_reference u us e =
    let p = and_parts (nat_le 49 u) (nat_le u 57) e in
    let low = leb-true 49 u p.0 in
    let high = leb-true u 57 p.1 in
    rw (ne_eqb u 98 (λ e. omega arith)) (rw (ne_eqb u 100 (λ e. omega arith), ne_eqb u 68 (λ e. omega arith), ne_eqb u 115 (λ e. omega arith), ne_eqb u 83 (λ e. omega arith), ne_eqb u 119 (λ e. omega arith), ne_eqb u 87 (λ e. omega arith))
    (rw (ne_eqb u 120 (λ e. omega arith), ne_eqb u 117 (λ e. omega arith), ne_eqb u 48 (λ e. omega arith), digit_sign u (digit_is u e), ne_eqb u 102 (λ e. omega arith), ne_eqb u 110 (λ e. omega arith), ne_eqb u 114 (λ e. omega arith), ne_eqb u 116 (λ e. omega arith), ne_eqb u 118 (λ e. omega arith)) refl))

-- an escape that no class has is none at all, or none of a class whatever is behind its first unit
pub record Unlisted (us : List ℕ) : Type 0 where
  pub either : (escape_at us ≡ None) ⊎ ((u : ℕ) (more : List ℕ) → us ≡ u ∷ more → (vs : List ℕ) → escaped_member_at (u ∷ vs) ≡ None)

same_first : (u : ℕ) (us : List ℕ) → ((vs : List ℕ) → escaped_member_at (u ∷ vs) ≡ None) → (v : ℕ) (more : List ℕ) → u ∷ us ≡ v ∷ more → (vs : List ℕ) → escaped_member_at (v ∷ vs) ≡ None
same_first u us h v more e vs = let same : u ≡ v = cc in subst (λ (q : ℕ). escaped_member_at (q ∷ vs) ≡ None) same (h vs)

pub unlisted_of : (us : List ℕ) → escaped_member_at us ≡ None → Unlisted us
unfolding escaped_member_at escape_at
unlisted_of [] e = record { either = inl refl }
unlisted_of (u ∷ us) e = by (u == 98) (u == 66) (nat_le 49 u && nat_le u 57) (class_escape_of u) (character_at (u ∷ us)) refl refl refl refl refl e
  where
    by : (a b c : Bool) (o : Option ClassEscape) (x : Option (ℕ × List ℕ)) → (u == 98) ≡ a → (u == 66) ≡ b → (nat_le 49 u && nat_le u 57) ≡ c → class_escape_of u ≡ o → character_at (u ∷ us) ≡ x → cond {A = Option (Member × List ℕ)} a (Some (member.One 8, us)) (many_or o us (one_of x)) ≡ None → Unlisted (u ∷ us)
    by true b c o x d f g h i e = absurd cc
    by false true c o x d f g h i e = record { either = inr (same_first u us (λ vs. subst (λ (q : ℕ). escaped_member_at (q ∷ vs) ≡ None) (sym (eqb-true u 66 f)) (no_boundary vs))) }
    by false false true o x d f g h i e = record { either = inr (same_first u us (λ vs. no_reference u vs g)) }
    by false false false (Some k) x d f g h i e = absurd cc
    by false false false None (Some k) d f g h i e = absurd cc
    by false false false None None d f g h i e = record { either = inl (rw (d, f, g, h, i) refl) }

-- in front of a `\` where a member is due
pub record Context (left front : List ℕ) : Type 0 where
  pub goes : InsideGo left (front ++ 92 ∷ [])
  pub stops : (units : List ℕ) → ((more : List ℕ) → escaped_member_at (units ++ more) ≡ None) → InsideStop left (front ++ 92 ∷ units)

pub bad_member : (left front us : List ℕ) → Context left front → escaped_member_at us ≡ None → IsBadEscape (InsideGo left) (InsideStop left) front us
bad_member left front us c e = record {
  begins = c.goes;
  escapes = λ units n. c.stops units (λ more. (n more).1);
  unlisted = elim (unlisted_of us e).either [
    | inl n ↦ inl n
    | inr n ↦ inr (e, λ u more d. c.stops (u ∷ []) (n u more d))
  ];
}

backslash_none : (units : List ℕ) → escaped_member_at units ≡ None → member_at (92 ∷ units) ≡ None
unfolding member_at
backslash_none units e = e

item_none : (us : List ℕ) → member_at us ≡ None → item_at us ≡ None
unfolding item_at
item_none us e = rw e refl

inside_backslash : (us vs : List ℕ) → AgreeInside (92 ∷ us) (92 ∷ vs)
inside_backslash us vs = record { digit = λ e. e; range = by }
  where
    by : (f : List ℕ) → begins_range (f ++ 92 ∷ us) ≡ false → begins_range (f ++ 92 ∷ vs) ≡ false
    by [] e = e
    by (c ∷ []) e = e
    by (c ∷ d ∷ f) e = e

digit_item : (tail : List ℕ) → item_at (92 ∷ 100 ∷ 93 ∷ tail) ≡ Some (item.Single (member.Many escape.Digit), 93 ∷ tail)
unfolding item_at member_at escaped_member_at class_escape_of
digit_item tail = refl

-- where a member begins
pub first_context : (us : List ℕ) → Context (92 ∷ us) []
first_context us = record {
  goes = record {
    more = 100 ∷ 93 ∷ [];
    caret = λ k tail. refl;
    agrees = λ tail. inside_backslash us (100 ∷ 93 ∷ tail);
    ranges = item_units (item.Single (member.Many escape.Digit)) ++ [];
    members = λ tail. one_item (92 ∷ 100 ∷ 93 ∷ tail) (item.Single (member.Many escape.Digit)) tail (digit_item tail);
  };
  stops = λ ws h more. (inside_backslash us (ws ++ more), none_members (92 ∷ ws ++ more) (item_none (92 ∷ ws ++ more) (backslash_none (ws ++ more) (h more))) refl);
}

-- where the end of a range does
pub end_context : (left : List ℕ) (x : Member) (end : List ℕ) (s : Start left x end) → Context left (s.part ++ 45 ∷ [])
end_context left x end s = record {
  goes = subst (λ (q : List ℕ). InsideGo left q) (sym (append_assoc s.part (45 ∷ []) (92 ∷ []))) (escape_goes left x end s);
  stops = λ ws h. subst (λ (q : List ℕ). InsideStop left q) (sym (append_assoc s.part (45 ∷ []) (92 ∷ ws))) (end_stops left x end s (92 ∷ ws) (λ more. (ap (λ (o : Option (Member × List ℕ)). range_at x o) (backslash_none (ws ++ more) (h more)), refl)));
}
