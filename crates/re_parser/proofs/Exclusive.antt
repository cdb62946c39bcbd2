-- A body has one refusal: a syntax error, an escape that isn't listed, a tenth group or a backreference to no group, at one place.
use Rattle.std.proofs.Common.{◌≡◌, ℕ, ◌+◌, ◌<◌, ◌≤◌, Bool, true, false, List, [], ◌∷◌, ◌++◌, length, Option, Some, None, refl, sym, ap, subst, ◌∙◌, append_assoc, arith, inl, inr}
use Rattle.std.specs.Prelude.{◌⊎◌, ◌==◌, nat_lt, Err}
use Rattle.std.proofs.lemmas.Bool.{ltb-true, ltb-false, ne_eqb}
use Rattle.std.proofs.lemmas.List.{append-nil, length-append}
use Rattle.re_ast.specs.declared.patterns.Pattern.{Pattern}
use Rattle.js_units.specs.Characters.{is_digit, is_hexadecimal}
use Rattle.re_parser.specs.Escapes.{starts, escaped_member_at}
use Rattle.re_parser.specs.Pieces.{escape_at}
use Rattle.re_parser.specs.Grammar.{HasShape}
use Rattle.re_parser.specs.Places.{Viable, Barren, NoEscape, IsFinished, IsMarkDue, IsWithinEscape, IsSyntax, IsBadEscape, IsTenthGroup, IsFirst, IsAt, IsRefusedAt}
use Rattle.re_parser.specs.Answers.{Kinds}
use Rattle.re_parser.specs.Laws.{IsOfBody, IsReason}
use Rattle.re_parser.specs.declared.kinds.Member.{Member}
use Rattle.re_parser.specs.declared.kinds.Member.TheVariants as member
use Rattle.re_parser.specs.declared.refusal.PatternRefusal.{PatternRefusal}
use Rattle.re_parser.specs.declared.refusal.PatternRefusal.TheVariants as refusal
use Rattle.re_parser.proofs.Members.{parts_same}
use Rattle.re_parser.proofs.Refusals.{outside_escape}
use Rattle.re_parser.proofs.Inside.{outside_member}
use Rattle.re_parser.proofs.Counts.{unbound_before}
use Rattle.re_parser.proofs.Reaches.{reach, further, no_digit, outside_digit, ends_member, no_escape, member_listed, IsSign, parenthesis, hyphen, question, backslash}

abbrev Syntax : List ℕ → List ℕ → Type 0
Syntax = IsSyntax Viable Barren (IsMarkDue Barren)

abbrev Bad : List ℕ → List ℕ → Type 0
Bad = IsBadEscape Viable Barren

abbrev Tenth : List ℕ → List ℕ → Type 0
Tenth = IsTenthGroup Viable Barren

-- ---- fronts

front_viable : (a b : List ℕ) → Viable (a ++ b) → Viable a
front_viable a b v = (b ++ v.0, subst HasShape (append_assoc a b v.0) v.1)

-- at one place stands one unit
same_unit : (a : List ℕ) (x : ℕ) (b c : List ℕ) (y : ℕ) (d : List ℕ) → a ++ x ∷ b ≡ c ++ y ∷ d → length a ≡ length c → x ≡ y
same_unit [] x b [] y d e h = cc
same_unit [] x b (v ∷ c) y d e h = absurd (omega (arith, h))
same_unit (u ∷ a) x b [] y d e h = absurd (omega (arith, h))
same_unit (u ∷ a) x b (v ∷ c) y d e h = same_unit a x b c y d (let q : a ++ x ∷ b ≡ c ++ y ∷ d = cc in q) (omega (arith, h))

-- ---- an escape that isn't listed: no sign goes on behind its `\`

one_outside : (u : ℕ) → 128 ≤ u → NoEscape (u ∷ [])
one_outside u h more = (outside_escape u more h, outside_member u more h)

no_start : (u : ℕ) (more : List ℕ) → is_hexadecimal u ≡ false → starts is_digit (u ∷ more) ≡ false
no_start u more h = no_digit u h

-- what the first unit behind the `\` says
first_stops : (front behind : List ℕ) (c : ℕ) (w more next : List ℕ) → (escaped_member_at behind ≡ None) × ((u : ℕ) (more : List ℕ) → behind ≡ u ∷ more → Barren (front ++ 92 ∷ u ∷ [])) → behind ≡ c ∷ w ++ more → Viable (front ++ (92 ∷ c ∷ w ++ next)) → ⊥
first_stops front behind c w more next n d v = n.1 c (w ++ more) d (front_viable (front ++ 92 ∷ c ∷ []) (w ++ next) (subst Viable (sym (append_assoc front (92 ∷ c ∷ []) (w ++ next))) v))

sign_stops : (front behind w : List ℕ) (u : ℕ) (more : List ℕ) → IsSign u → Bad front behind → behind ≡ w ++ u ∷ more → Viable (front ++ (92 ∷ w ++ u ∷ [])) → ⊥
sign_stops front behind [] u more s b d v =
    elim b.unlisted [
      | inl n ↦ member_listed behind _ (ap escaped_member_at d ∙ s.listed more) n
      | inr n ↦ (let none = sym (n.0) ∙ ap escaped_member_at d ∙ s.listed more in cc)
    ]
sign_stops front behind (c ∷ w) u more s b d v =
    elim b.unlisted [
      | inl n ↦ b.escapes (c ∷ w ++ u ∷ []) (no_escape c w (u ∷ more) u (ap escape_at (sym d) ∙ n) s.plain (no_start u more s.plain)) v
      | inr n ↦ first_stops front behind c w (u ∷ more) (u ∷ []) n d v
    ]

-- so behind it nothing is told of a sign
bad_before : (f behind g : List ℕ) (u : ℕ) (more : List ℕ) → IsSign u → Bad f behind → f ++ 92 ∷ behind ≡ g ++ u ∷ more → Viable (g ++ u ∷ []) → length f < length g → ⊥
bad_before f behind g u more s b e v h =
    let r = further f 92 behind g (u ∷ more) e h in
    let there : g ++ u ∷ [] ≡ f ++ (92 ∷ r.part ++ u ∷ []) = ap (λ (q : List ℕ). q ++ u ∷ []) r.front ∙ append_assoc (f ++ 92 ∷ []) r.part (u ∷ []) ∙ append_assoc f (92 ∷ []) (r.part ++ u ∷ []) in
    sign_stops f behind r.part u more s b r.rest (subst Viable there v)

-- ---- a tenth group: only a `?` goes on behind its `(`

tenth_before : (f behind g rest : List ℕ) → Tenth f behind → f ++ 40 ∷ behind ≡ g ++ rest → Viable g → length f + 1 < length g → ⊥
tenth_before f behind g rest t e v h =
    let r = further f 40 behind g rest e (omega (arith, h)) in
    by r.part r.front r.rest
  where
    by : (part : List ℕ) → g ≡ (f ++ 40 ∷ []) ++ part → behind ≡ part ++ rest → ⊥
    by [] p d = omega (arith, h, ap length p, length-append (f ++ 40 ∷ []) [], length-append f (40 ∷ []))
    by (u ∷ part) p d =
        let none : (u == 63) ≡ false = subst (λ (q : List ℕ). starts (λ u. u == 63) q ≡ false) d t.unmarked in
        t.only_marked u none (front_viable (f ++ 40 ∷ u ∷ []) part (subst Viable (p ∙ append_assoc f (40 ∷ []) (u ∷ part) ∙ sym (append_assoc f (40 ∷ u ∷ []) part)) v))

-- ---- a syntax error: no front goes on beyond it

syntax_before : (f rest g more : List ℕ) → Syntax f rest → f ++ rest ≡ g ++ more → Viable g → length f < length g → ⊥
syntax_before f rest g more s e v h =
    let r = reach f rest g more e (omega (arith, h)) in
    by r.part r.front r.rest
  where
    by : (part : List ℕ) → g ≡ f ++ part → rest ≡ part ++ more → ⊥
    by [] p d = omega (arith, h, ap length p, length-append f [])
    by (u ∷ part) p d = s.there u (part ++ more) d (front_viable (f ++ u ∷ []) part (subst Viable (p ∙ sym (append_assoc f (u ∷ []) part)) v))

-- an escape that is listed and ends behind a place holds no sign
within_sign : (w : List ℕ) (u : ℕ) (part rest : List ℕ) (m : Member) (behind : List ℕ) → IsSign u → escaped_member_at ((w ++ u ∷ part) ++ rest) ≡ Some (m, behind) → length behind < length rest → ⊥
within_sign [] u part rest m behind s e h =
    let same : ◌≡◌ {A = Option (Member × List ℕ)} (Some (m, behind)) (Some (member.One u, part ++ rest)) = sym e ∙ s.listed (part ++ rest) in
    omega (arith, h, ap length (parts_same Member (List ℕ) (m, behind) (member.One u, part ++ rest) same).1, length-append part rest)
within_sign (c ∷ w) u part rest m behind s e h =
    let there = ends_member c w u (part ++ rest) m behind s.plain (ap (λ (q : List ℕ). escaped_member_at (c ∷ q)) (sym (append_assoc w (u ∷ part) rest)) ∙ e) in
    omega (arith, h, there, length-append part rest)

-- ---- two reasons in one body

bad_bad : (f behind g others : List ℕ) → Bad f behind → Bad g others → f ++ 92 ∷ behind ≡ g ++ 92 ∷ others → length f < length g → ⊥
bad_bad f behind g others b c e h = bad_before f behind g 92 others backslash b e c.begins h

bad_tenth : (f behind g others : List ℕ) → Bad f behind → Tenth g others → f ++ 92 ∷ behind ≡ g ++ 40 ∷ others → ⊥
bad_tenth f behind g others b t e = by (nat_lt (length f) (length g)) (nat_lt (length g) (length f)) refl refl
  where
    by : (x y : Bool) → nat_lt (length f) (length g) ≡ x → nat_lt (length g) (length f) ≡ y → ⊥
    by true y k l = bad_before f behind g 40 others parenthesis b e t.begins (ltb-true (length f) (length g) k)
    by false true k l = tenth_before g others (f ++ 92 ∷ []) behind t (sym e ∙ sym (append_assoc f (92 ∷ []) behind)) b.begins (omega (arith, ltb-true (length g) (length f) l, length-append f (92 ∷ [])))
    by false false k l = let same = same_unit f 92 behind g 40 others e (omega (arith, ltb-false (length f) (length g) k, ltb-false (length g) (length f) l)) in omega (arith, same)

tenth_tenth : (f behind g others : List ℕ) → Tenth f behind → Tenth g others → f ++ 40 ∷ behind ≡ g ++ 40 ∷ others → length f < length g → ⊥
tenth_tenth f behind g others t u e h = tenth_before f behind (g ++ 40 ∷ []) others t (e ∙ sym (append_assoc g (40 ∷ []) others)) u.begins (omega (arith, h, length-append g (40 ∷ [])))

syntax_syntax : (f rest g others : List ℕ) → Syntax f rest → Syntax g others → f ++ rest ≡ g ++ others → length f < length g → ⊥
syntax_syntax f rest g others s t e h = syntax_before f rest g others s e t.before h

-- the last unit of a front is a sign
front_sign : (f behind g rest before : List ℕ) (u : ℕ) → IsSign u → (u ≡ 92 → ⊥) → Bad f behind → f ++ 92 ∷ behind ≡ g ++ rest → Viable g → g ≡ before ++ u ∷ [] → length f < length g → ⊥
front_sign f behind g rest before u s n b e v d h =
    let there : f ++ 92 ∷ behind ≡ before ++ u ∷ rest = e ∙ ap (λ (q : List ℕ). q ++ rest) d ∙ append_assoc before (u ∷ []) rest in
    by (nat_lt (length f) (length before)) refl there
  where
    by : (c : Bool) → nat_lt (length f) (length before) ≡ c → f ++ 92 ∷ behind ≡ before ++ u ∷ rest → ⊥
    by true k there = bad_before f behind before u rest s b there (subst Viable d v) (ltb-true (length f) (length before) k)
    by false k there = n (sym (same_unit f 92 behind before u rest there (omega (arith, h, ap length d, length-append before (u ∷ []), ltb-false (length f) (length before) k))))

bad_finished : (f behind g rest : List ℕ) → Bad f behind → (v : Viable g) → IsFinished Viable g rest → f ++ 92 ∷ behind ≡ g ++ rest → length f < length g → ⊥
bad_finished f behind g rest b v (u, h, goes, inr k) e l = front_sign f behind g rest k.0 45 hyphen (λ d. omega (arith, d)) b e v k.1 l
bad_finished f behind g rest b v (u, h, goes, inl n) e l =
    let r = further f 92 behind g rest e l in
    by r.part (r.front ∙ append_assoc f (92 ∷ []) r.part) r.rest
  where
    by : (part : List ℕ) → g ≡ f ++ 92 ∷ part → behind ≡ part ++ rest → ⊥
    by [] p d = b.escapes (u ∷ []) (one_outside u h) (subst Viable (ap (λ (q : List ℕ). q ++ u ∷ []) p ∙ append_assoc f (92 ∷ []) (u ∷ [])) goes)
    by (c ∷ w) p d =
        let there : Viable (f ++ (92 ∷ c ∷ w ++ u ∷ [])) = subst Viable (ap (λ (q : List ℕ). q ++ u ∷ []) p ∙ append_assoc f (92 ∷ c ∷ w) (u ∷ [])) goes in
        elim b.unlisted [
          | inl k ↦ b.escapes (c ∷ w ++ u ∷ []) (no_escape c w rest u (ap escape_at (sym d) ∙ k) (outside_digit u h) n) there
          | inr k ↦ first_stops f behind c w rest (u ∷ []) k d there
        ]

bad_within : (f behind g rest : List ℕ) → Bad f behind → Viable g → IsWithinEscape g rest → f ++ 92 ∷ behind ≡ g ++ rest → length f < length g → ⊥
bad_within f behind g rest b v w e l = by (nat_lt (length f) (length w.before)) (nat_lt (length w.before) (length f)) refl refl
  where
    whole : f ++ 92 ∷ behind ≡ w.before ++ 92 ∷ (w.part ++ rest)
    whole = e ∙ ap (λ (q : List ℕ). q ++ rest) w.is ∙ append_assoc w.before (92 ∷ w.part) rest

    same : behind ≡ w.part ++ rest → ⊥
    same d =
        let listed = ap escaped_member_at d ∙ w.listed in
        elim b.unlisted [
          | inl k ↦ member_listed behind (w.member, w.behind) listed k
          | inr k ↦ (let none = sym k.0 ∙ listed in cc)
        ]

    by : (x y : Bool) → nat_lt (length f) (length w.before) ≡ x → nat_lt (length w.before) (length f) ≡ y → ⊥
    by true y p q = bad_before f behind w.before 92 (w.part ++ rest) backslash b whole (front_viable (w.before ++ 92 ∷ []) w.part (subst Viable (w.is ∙ sym (append_assoc w.before (92 ∷ []) w.part)) v)) (ltb-true (length f) (length w.before) p)
    by false true p q =
        -- the `\` of the other escape stands in front
        let r = further w.before 92 (w.part ++ rest) f (92 ∷ behind) (sym whole) (ltb-true (length w.before) (length f) q) in
        let back = reach (f ++ 92 ∷ []) behind g rest (append_assoc f (92 ∷ []) behind ∙ e) (omega (arith, l, length-append f (92 ∷ []))) in
        let parts : w.part ++ rest ≡ (r.part ++ 92 ∷ back.part) ++ rest = r.rest ∙ ap (λ (x : List ℕ). r.part ++ 92 ∷ x) back.rest ∙ sym (append_assoc r.part (92 ∷ back.part) rest) in
        within_sign r.part 92 back.part rest w.member w.behind backslash (ap escaped_member_at (sym parts) ∙ w.listed) w.later
    by false false p q =
        let r = reach (f ++ 92 ∷ []) behind (w.before ++ 92 ∷ []) (w.part ++ rest) (append_assoc f (92 ∷ []) behind ∙ whole ∙ sym (append_assoc w.before (92 ∷ []) (w.part ++ rest))) (omega (arith, ltb-false (length f) (length w.before) p, ltb-false (length w.before) (length f) q, length-append f (92 ∷ []), length-append w.before (92 ∷ []))) in
        none r.part (omega (arith, ap length r.front, length-append (f ++ 92 ∷ []) r.part, length-append f (92 ∷ []), length-append w.before (92 ∷ []), ltb-false (length f) (length w.before) p, ltb-false (length w.before) (length f) q)) r.rest
      where
        none : (part : List ℕ) → length part ≡ 0 → behind ≡ part ++ (w.part ++ rest) → ⊥
        none [] n d = same d
        none (u ∷ part) n d = omega (arith, n)

bad_syntax : (f behind g rest : List ℕ) → Bad f behind → Syntax g rest → f ++ 92 ∷ behind ≡ g ++ rest → ⊥
bad_syntax f behind g rest b s e = by (nat_lt (length f) (length g)) refl
  where
    reasons : length f < length g → IsFinished Viable g rest ⊎ (IsMarkDue Barren g ⊎ IsWithinEscape g rest) → ⊥
    reasons l (inl k) = bad_finished f behind g rest b s.before k e l
    reasons l (inr (inl k)) = front_sign f behind g rest k.0.0 63 question (λ d. omega (arith, d)) b e s.before k.0.1 l
    reasons l (inr (inr k)) = bad_within f behind g rest b s.before k e l

    by : (c : Bool) → nat_lt (length f) (length g) ≡ c → ⊥
    by true k = reasons (ltb-true (length f) (length g) k) s.reason
    by false k = syntax_before g rest (f ++ 92 ∷ []) behind s (sym e ∙ sym (append_assoc f (92 ∷ []) behind)) b.begins (omega (arith, ltb-false (length f) (length g) k, length-append f (92 ∷ [])))

-- nothing but the `(` stands in front of a syntax error
tenth_due : (f behind g rest : List ℕ) → Tenth f behind → g ≡ f ++ 40 ∷ [] → IsFinished Viable g rest ⊎ (IsMarkDue Barren g ⊎ IsWithinEscape g rest) → ⊥
tenth_due f behind g rest t d (inl k) = t.only_marked k.0 (ne_eqb k.0 63 (λ q. let h = k.1 in omega arith)) (subst Viable (ap (λ (q : List ℕ). q ++ k.0 ∷ []) d ∙ append_assoc f (40 ∷ []) (k.0 ∷ [])) k.2)
tenth_due f behind g rest t d (inr (inl k)) =
    let same = same_unit f 40 [] k.0.0 63 [] (sym d ∙ k.0.1) (omega (arith, ap length d, ap length k.0.1, length-append f (40 ∷ []), length-append k.0.0 (63 ∷ []))) in
    omega (arith, same)
tenth_due f behind g rest t d (inr (inr w)) = by (nat_lt (length w.before) (length f)) refl
  where
    whole : w.before ++ 92 ∷ w.part ≡ f ++ 40 ∷ []
    whole = sym w.is ∙ d

    by : (c : Bool) → nat_lt (length w.before) (length f) ≡ c → ⊥
    by true k =
        let r = further w.before 92 w.part f (40 ∷ []) whole (ltb-true (length w.before) (length f) k) in
        within_sign r.part 40 [] rest w.member w.behind parenthesis (ap (λ (q : List ℕ). escaped_member_at (q ++ rest)) (sym r.rest) ∙ w.listed) w.later
    by false k =
        let more = ltb-false (length w.before) (length f) k in
        let same = same_unit w.before 92 w.part f 40 [] whole (omega (arith, more, ap length whole, length-append w.before (92 ∷ w.part), length-append f (40 ∷ []))) in
        omega (arith, same)

tenth_syntax : (f behind g rest : List ℕ) → Tenth f behind → Syntax g rest → f ++ 40 ∷ behind ≡ g ++ rest → ⊥
tenth_syntax f behind g rest t s e = by (nat_lt (length f) (length g)) (nat_lt (length f + 1) (length g)) refl refl
  where
    at_once : length f < length g → length g ≤ length f + 1 → ⊥
    at_once h k =
        let r = further f 40 behind g rest e h in
        none r.part r.front (omega (arith, k, ap length r.front, length-append (f ++ 40 ∷ []) r.part, length-append f (40 ∷ [])))
      where
        none : (part : List ℕ) → g ≡ (f ++ 40 ∷ []) ++ part → length part ≡ 0 → ⊥
        none [] p n = tenth_due f behind g rest t (p ∙ append-nil (f ++ 40 ∷ [])) s.reason
        none (u ∷ part) p n = omega (arith, n)

    by : (x y : Bool) → nat_lt (length f) (length g) ≡ x → nat_lt (length f + 1) (length g) ≡ y → ⊥
    by x true p q = tenth_before f behind g rest t e s.before (ltb-true (length f + 1) (length g) q)
    by true false p q = at_once (ltb-true (length f) (length g) p) (ltb-false (length f + 1) (length g) q)
    by false false p q = syntax_before g rest (f ++ 40 ∷ []) behind s (sym e ∙ sym (append_assoc f (40 ∷ []) behind)) t.begins (omega (arith, ltb-false (length f) (length g) p, length-append f (40 ∷ [])))

-- ---- one place

-- of two fronts none is shorter
even : (f g : List ℕ) → (length f < length g → ⊥) → (length g < length f → ⊥) → length f ≡ length g
even f g a b = by (nat_lt (length f) (length g)) (nat_lt (length g) (length f)) refl refl
  where
    by : (x y : Bool) → nat_lt (length f) (length g) ≡ x → nat_lt (length g) (length f) ≡ y → length f ≡ length g
    by true y p q = absurd (a (ltb-true (length f) (length g) p))
    by false true p q = absurd (b (ltb-true (length g) (length f) q))
    by false false p q = omega (arith, ltb-false (length f) (length g) p, ltb-false (length g) (length f) q)

-- the body in two ways
two : (body f rest g others : List ℕ) → body ≡ f ++ rest → body ≡ g ++ others → f ++ rest ≡ g ++ others
two body f rest g others d e = sym d ∙ e

-- the unit that the rest begins with
begins_at : (unit : ℕ) (P : List ℕ → List ℕ → Type 0) (body : List ℕ) (at : ℕ) (x : IsAt body at (IsFirst unit P)) → body ≡ x.front ++ unit ∷ x.is.behind
begins_at unit P body at x = x.parts ∙ ap (λ (q : List ℕ). x.front ++ q) x.is.starts

-- two refusals by what is said of their kinds and their places
apart : (body : List ℕ) (e f : PatternRefusal) → IsOfBody e → IsOfBody f → Kinds body (Err e) → Kinds body (Err f) → IsRefusedAt {X = Pattern} body (Err e) → IsRefusedAt {X = Pattern} body (Err f) → e ≡ f
apart body (refusal.Syntax at) (refusal.Syntax other) o p k l x y =
    let d = two body x.front x.rest y.front y.rest x.parts y.parts in
    let same = even x.front y.front (syntax_syntax x.front x.rest y.front y.rest x.is y.is d) (syntax_syntax y.front y.rest x.front x.rest y.is x.is (sym d)) in
    ap (λ (q : ℕ). refusal.Syntax q) (x.place ∙ same ∙ sym y.place)
apart body (refusal.Syntax at) (refusal.BadEscape other) o p k l x y = absurd (bad_syntax y.front y.is.behind x.front x.rest y.is.is x.is (two body y.front (92 ∷ y.is.behind) x.front x.rest (begins_at 92 Bad body other y) x.parts))
apart body (refusal.Syntax at) (refusal.TooManyGroups other) o p k l x y = absurd (tenth_syntax y.front y.is.behind x.front x.rest y.is.is x.is (two body y.front (40 ∷ y.is.behind) x.front x.rest (begins_at 40 Tenth body other y) x.parts))
apart body (refusal.Syntax at) (refusal.BackrefRange other) o p k l x y = absurd (k l)
apart body (refusal.BadEscape at) (refusal.Syntax other) o p k l x y = absurd (bad_syntax x.front x.is.behind y.front y.rest x.is.is y.is (two body x.front (92 ∷ x.is.behind) y.front y.rest (begins_at 92 Bad body at x) y.parts))
apart body (refusal.BadEscape at) (refusal.BadEscape other) o p k l x y =
    let d = two body x.front (92 ∷ x.is.behind) y.front (92 ∷ y.is.behind) (begins_at 92 Bad body at x) (begins_at 92 Bad body other y) in
    let same = even x.front y.front (bad_bad x.front x.is.behind y.front y.is.behind x.is.is y.is.is d) (bad_bad y.front y.is.behind x.front x.is.behind y.is.is x.is.is (sym d)) in
    ap (λ (q : ℕ). refusal.BadEscape q) (x.place ∙ same ∙ sym y.place)
apart body (refusal.BadEscape at) (refusal.TooManyGroups other) o p k l x y = absurd (bad_tenth x.front x.is.behind y.front y.is.behind x.is.is y.is.is (two body x.front (92 ∷ x.is.behind) y.front (40 ∷ y.is.behind) (begins_at 92 Bad body at x) (begins_at 40 Tenth body other y)))
apart body (refusal.BadEscape at) (refusal.BackrefRange other) o p k l x y = absurd (k l)
apart body (refusal.TooManyGroups at) (refusal.Syntax other) o p k l x y = absurd (tenth_syntax x.front x.is.behind y.front y.rest x.is.is y.is (two body x.front (40 ∷ x.is.behind) y.front y.rest (begins_at 40 Tenth body at x) y.parts))
apart body (refusal.TooManyGroups at) (refusal.BadEscape other) o p k l x y = absurd (bad_tenth y.front y.is.behind x.front x.is.behind y.is.is x.is.is (two body y.front (92 ∷ y.is.behind) x.front (40 ∷ x.is.behind) (begins_at 92 Bad body other y) (begins_at 40 Tenth body at x)))
apart body (refusal.TooManyGroups at) (refusal.TooManyGroups other) o p k l x y =
    let d = two body x.front (40 ∷ x.is.behind) y.front (40 ∷ y.is.behind) (begins_at 40 Tenth body at x) (begins_at 40 Tenth body other y) in
    let same = even x.front y.front (tenth_tenth x.front x.is.behind y.front y.is.behind x.is.is y.is.is d) (tenth_tenth y.front y.is.behind x.front x.is.behind y.is.is x.is.is (sym d)) in
    ap (λ (q : ℕ). refusal.TooManyGroups q) (x.place ∙ same ∙ sym y.place)
apart body (refusal.TooManyGroups at) (refusal.BackrefRange other) o p k l x y = absurd (k l)
apart body (refusal.BackrefRange at) (refusal.Syntax other) o p k l x y = absurd (l k)
apart body (refusal.BackrefRange at) (refusal.BadEscape other) o p k l x y = absurd (l k)
apart body (refusal.BackrefRange at) (refusal.TooManyGroups other) o p k l x y = absurd (l k)
apart body (refusal.BackrefRange at) (refusal.BackrefRange other) o p k l x y =
    let d = two body x.front x.rest y.front y.rest x.parts y.parts in
    let same = even x.front y.front (unbound_before body x.front x.rest y.front y.rest x.is y.is d) (unbound_before body y.front y.rest x.front x.rest y.is x.is (sym d)) in
    ap (λ (q : ℕ). refusal.BackrefRange q) (x.place ∙ same ∙ sym y.place)
apart body refusal.NoMemory f o p k l x y = absurd o
apart body (refusal.Flags at) f o p k l x y = absurd o
apart body (refusal.Syntax at) refusal.NoMemory o p k l x y = absurd p
apart body (refusal.Syntax at) (refusal.Flags other) o p k l x y = absurd p
apart body (refusal.BadEscape at) refusal.NoMemory o p k l x y = absurd p
apart body (refusal.BadEscape at) (refusal.Flags other) o p k l x y = absurd p
apart body (refusal.TooManyGroups at) refusal.NoMemory o p k l x y = absurd p
apart body (refusal.TooManyGroups at) (refusal.Flags other) o p k l x y = absurd p
apart body (refusal.BackrefRange at) refusal.NoMemory o p k l x y = absurd p
apart body (refusal.BackrefRange at) (refusal.Flags other) o p k l x y = absurd p

pub one_reason : (body : List ℕ) (e f : PatternRefusal) → IsReason body e → IsReason body f → e ≡ f
one_reason body e f x y = apart body e f x.of y.of x.kind y.kind x.place y.place
