-- What was read in front of units is read again in front of units that agree with them.
use Rattle.std.proofs.Common.{◌≡◌, ℕ, ◌+◌, Bool, true, false, cond, List, [], ◌∷◌, ◌++◌, Option, Some, None, refl, sym, ap, subst, ◌∙◌, append_assoc}
use Rattle.std.specs.Prelude.{◌==◌, ◌&&◌, ◌*◌, not, drop}
use Rattle.std.proofs.lemmas.Bool.{and_parts, eqb-true}
use Rattle.js_units.specs.Characters.{is_digit, is_hexadecimal, digit_value}
use Rattle.re_parser.specs.Characters.{is_sign, control_of}
use Rattle.re_parser.specs.Escapes.{starts, byte_at, unit_at, null_at, control_at, character_at, class_escape_of, one_of, many_or, escaped_member_at, member_at, is_close, begins_range, range_of, item_of, range_at, item_from, item_at}
use Rattle.re_parser.specs.declared.kinds.ClassEscape.{ClassEscape}
use Rattle.re_parser.specs.declared.kinds.ClassItem.{ClassItem}
use Rattle.re_parser.specs.declared.kinds.ClassItem.TheVariants as item
use Rattle.re_parser.specs.declared.kinds.Member.{Member}
use Rattle.re_parser.specs.declared.kinds.Member.TheVariants as member
use Rattle.re_parser.proofs.Members.{parts_same}

pub record Cut (A : List ℕ → List ℕ → Type 0) (V : Type 0) (F : List ℕ → Option (V × List ℕ)) (units : List ℕ) (v : V) (rest : List ℕ) : Type 0 where
  pub part : List ℕ
  pub parts : units ≡ part ++ rest
  pub again : (more : List ℕ) → A rest more → F (part ++ more) ≡ Some (v, more)

abbrev pub Cuts : (List ℕ → List ℕ → Type 0) → (V : Type 0) → (List ℕ → Option (V × List ℕ)) → Type 0
Cuts A V F = (units : List ℕ) (v : V) (rest : List ℕ) → F units ≡ Some (v, rest) → Cut A V F units v rest

-- ---- forms of reading

pub cuts_none : (A : List ℕ → List ℕ → Type 0) (V : Type 0) → Cuts A V (λ (us : List ℕ). None)
cuts_none A V us v rest e = absurd cc

pub cuts_some : (A : List ℕ → List ℕ → Type 0) (V : Type 0) (w : V) → Cuts A V (λ (us : List ℕ). Some (w, us))
cuts_some A V w us v rest e =
    let s = parts_same V (List ℕ) (w, us) (v, rest) e in
    record { part = []; parts = s.1; again = λ more a. ap (λ (x : V). Some (x, more)) s.0 }

pub cuts_cond : (A : List ℕ → List ℕ → Type 0) (V : Type 0) (c : Bool) (F G : List ℕ → Option (V × List ℕ)) → Cuts A V F → Cuts A V G → Cuts A V (λ (us : List ℕ). cond c (F us) (G us))
cuts_cond A V true F G f g = f
cuts_cond A V false F G f g = g

pub cuts_cons : (A : List ℕ → List ℕ → Type 0) (V : Type 0) (F : List ℕ → Option (V × List ℕ)) → F [] ≡ None → ((u : ℕ) → Cuts A V (λ (us : List ℕ). F (u ∷ us))) → Cuts A V F
cuts_cons A V F n h [] v rest e = absurd cc
cuts_cons A V F n h (u ∷ us) v rest e =
    let c = h u us v rest e in
    record { part = u ∷ c.part; parts = ap (λ (x : List ℕ). u ∷ x) c.parts; again = c.again }

pub cuts_map : (A : List ℕ → List ℕ → Type 0) (V W : Type 0) (F : List ℕ → Option (V × List ℕ)) (f : V → W) (G : Option (V × List ℕ) → Option (W × List ℕ)) → G None ≡ None → ((x : V) (us : List ℕ) → G (Some (x, us)) ≡ Some (f x, us)) → Cuts A V F → Cuts A W (λ (us : List ℕ). G (F us))
cuts_map A V W F f G n s h us v rest e = by (F us) refl e
  where
    by : (o : Option (V × List ℕ)) → F us ≡ o → G o ≡ Some (v, rest) → Cut A W (λ (us : List ℕ). G (F us)) us v rest
    by None d e = absurd cc
    by (Some x) d e =
        let p = parts_same W (List ℕ) (f x.0, x.1) (v, rest) (sym (s x.0 x.1) ∙ e) in
        let c = h us x.0 rest (d ∙ ap (λ (q : List ℕ). Some (x.0, q)) p.1) in
        record { part = c.part; parts = c.parts; again = λ more a. ap G (c.again more a) ∙ s x.0 more ∙ ap (λ (q : W). Some (q, more)) p.0 }

-- ---- characters

-- what agrees begins with no digit where the other doesn't
abbrev pub Digits : (List ℕ → List ℕ → Type 0) → Type 0
Digits A = (rest more : List ℕ) → A rest more → starts is_digit rest ≡ false → starts is_digit more ≡ false

pub cuts_byte : (A : List ℕ → List ℕ → Type 0) → Cuts A ℕ byte_at
unfolding byte_at
cuts_byte A =
    cuts_cons A ℕ byte_at refl (λ a. cuts_cons A ℕ (λ (us : List ℕ). byte_at (a ∷ us)) refl (λ b.
    cuts_cond A ℕ (is_hexadecimal a && is_hexadecimal b) (λ (us : List ℕ). Some (digit_value a * 16 + digit_value b, us)) (λ (us : List ℕ). None) (cuts_some A ℕ (digit_value a * 16 + digit_value b)) (cuts_none A ℕ)))

pub cuts_unit : (A : List ℕ → List ℕ → Type 0) → Cuts A ℕ unit_at
unfolding unit_at
cuts_unit A =
    cuts_cons A ℕ unit_at refl (λ a. cuts_cons A ℕ (λ (us : List ℕ). unit_at (a ∷ us)) refl (λ b.
    cuts_cons A ℕ (λ (us : List ℕ). unit_at (a ∷ b ∷ us)) refl (λ c. cuts_cons A ℕ (λ (us : List ℕ). unit_at (a ∷ b ∷ c ∷ us)) refl (λ d.
    cuts_cond A ℕ (is_hexadecimal a && is_hexadecimal b && is_hexadecimal c && is_hexadecimal d) (λ (us : List ℕ). Some (digit_value a * 4096 + digit_value b * 256 + digit_value c * 16 + digit_value d, us)) (λ (us : List ℕ). None)
    (cuts_some A ℕ (digit_value a * 4096 + digit_value b * 256 + digit_value c * 16 + digit_value d)) (cuts_none A ℕ)))))

pub cuts_null : (A : List ℕ → List ℕ → Type 0) → Digits A → Cuts A ℕ null_at
cuts_null A h us v rest e = by (starts is_digit us) refl e
  where
    by : (c : Bool) → starts is_digit us ≡ c → cond {A = Option (ℕ × List ℕ)} c None (Some (0, us)) ≡ Some (v, rest) → Cut A ℕ null_at us v rest
    by true d e = absurd cc
    by false d e =
        let p = parts_same ℕ (List ℕ) (0, us) (v, rest) e in
        let none : starts is_digit rest ≡ false = subst (λ (q : List ℕ). starts is_digit q ≡ false) p.1 d in
        record { part = []; parts = p.1; again = λ more a. rw (h rest more a none) (ap (λ (x : ℕ). Some (x, more)) p.0) }

pub cuts_control : (A : List ℕ → List ℕ → Type 0) (o : Option ℕ) → Cuts A ℕ (λ (us : List ℕ). control_at o us)
cuts_control A None = cuts_none A ℕ
cuts_control A (Some u) = cuts_some A ℕ u

-- what is read of a first unit and others
abbrev pub Fronts : (List ℕ → List ℕ → Type 0) → (V : Type 0) → (List ℕ → Option (V × List ℕ)) → Type 0
Fronts A V F = (u : ℕ) → Cuts A V (λ (us : List ℕ). F (u ∷ us))

pub fronts_character : (A : List ℕ → List ℕ → Type 0) → Digits A → Fronts A ℕ character_at
unfolding character_at
fronts_character A h u =
    cuts_cond A ℕ (u == 120) byte_at (λ (us : List ℕ). cond (u == 117) (unit_at us) (cond (u == 48) (null_at us) (cond (is_sign u) (Some (u, us)) (control_at (control_of u) us)))) (cuts_byte A)
    (cuts_cond A ℕ (u == 117) unit_at (λ (us : List ℕ). cond (u == 48) (null_at us) (cond (is_sign u) (Some (u, us)) (control_at (control_of u) us))) (cuts_unit A)
    (cuts_cond A ℕ (u == 48) null_at (λ (us : List ℕ). cond (is_sign u) (Some (u, us)) (control_at (control_of u) us)) (cuts_null A h)
    (cuts_cond A ℕ (is_sign u) (λ (us : List ℕ). Some (u, us)) (λ (us : List ℕ). control_at (control_of u) us) (cuts_some A ℕ u) (cuts_control A (control_of u)))))

-- ---- members

pub cuts_many : (A : List ℕ → List ℕ → Type 0) (o : Option ClassEscape) (F : List ℕ → Option (Member × List ℕ)) → Cuts A Member F → Cuts A Member (λ (us : List ℕ). many_or o us (F us))
cuts_many A None F f = f
cuts_many A (Some e) F f = cuts_some A Member (member.Many e)

pub fronts_one : (A : List ℕ → List ℕ → Type 0) → Digits A → Fronts A Member (λ (us : List ℕ). one_of (character_at us))
fronts_one A h u = cuts_map A ℕ Member (λ (us : List ℕ). character_at (u ∷ us)) (λ (x : ℕ). member.One x) one_of refl (λ x us. refl) (fronts_character A h u)

pub fronts_escaped : (A : List ℕ → List ℕ → Type 0) → Digits A → Fronts A Member escaped_member_at
unfolding escaped_member_at
fronts_escaped A h u =
    cuts_cond A Member (u == 98) (λ (us : List ℕ). Some (member.One 8, us)) (λ (us : List ℕ). many_or (class_escape_of u) us (one_of (character_at (u ∷ us)))) (cuts_some A Member (member.One 8))
    (cuts_many A (class_escape_of u) (λ (us : List ℕ). one_of (character_at (u ∷ us))) (fronts_one A h u))

cuts_escaped : (A : List ℕ → List ℕ → Type 0) → Digits A → Cuts A Member escaped_member_at
unfolding escaped_member_at
cuts_escaped A h = cuts_cons A Member escaped_member_at refl (fronts_escaped A h)

pub cuts_member : (A : List ℕ → List ℕ → Type 0) → Digits A → Cuts A Member member_at
unfolding member_at
cuts_member A h = cuts_cons A Member member_at refl (λ u.
    cuts_cond A Member (u == 92) escaped_member_at (λ (us : List ℕ). cond (u == 93) None (Some (member.One u, us))) (cuts_escaped A h)
    (cuts_cond A Member (u == 93) (λ (us : List ℕ). None) (λ (us : List ℕ). Some (member.One u, us)) (cuts_none A Member) (cuts_some A Member (member.One u))))

-- ---- classes' items

pub record Range (A : List ℕ → List ℕ → Type 0) (x : Member) (us : List ℕ) (v : ClassItem) (rest : List ℕ) : Type 0 where
  pub part : List ℕ
  pub parts : us ≡ part ++ rest
  pub again : (more : List ℕ) → A rest more → range_at x (member_at (part ++ more)) ≡ Some (v, more)

range_cut : (A : List ℕ → List ℕ → Type 0) → Digits A → (x : Member) (us : List ℕ) (v : ClassItem) (rest : List ℕ) → range_at x (member_at us) ≡ Some (v, rest) → Range A x us v rest
range_cut A h x us v rest e = by (member_at us) refl e
  where
    deep : (y : Member × List ℕ) (i : Option ClassItem) → member_at us ≡ Some y → range_of x y.0 ≡ i → item_of i y.1 ≡ Some (v, rest) → Range A x us v rest
    deep y None d g e = absurd cc
    deep y (Some i) d g e =
        let p = parts_same ClassItem (List ℕ) (i, y.1) (v, rest) e in
        let c = cuts_member A h us y.0 rest (d ∙ ap (λ (q : List ℕ). Some (y.0, q)) p.1) in
        record {
          part = c.part;
          parts = c.parts;
          again = λ more a. ap (λ (q : Option (Member × List ℕ)). range_at x q) (c.again more a) ∙ ap (λ (q : Option ClassItem). item_of q more) g ∙ ap (λ (q : ClassItem). Some (q, more)) p.0;
        }

    by : (o : Option (Member × List ℕ)) → member_at us ≡ o → range_at x o ≡ Some (v, rest) → Range A x us v rest
    by None d e = absurd cc
    by (Some y) d e = deep y (range_of x y.0) d refl e

-- units that begin a range are a `-` and others
pub hyphen : (us : List ℕ) → begins_range us ≡ true → us ≡ 45 ∷ drop 1 us
hyphen [] e = absurd cc
hyphen (u ∷ us) e = ap (λ (q : ℕ). q ∷ us) (eqb-true u 45 (and_parts (u == 45) (not (starts is_close us)) e).0)

-- a `]` that doesn't begin a member
pub no_close : (us : List ℕ) (y : Member × List ℕ) → member_at us ≡ Some y → starts is_close us ≡ false
unfolding member_at
no_close [] y e = refl
no_close (u ∷ us) y e = by (u == 93) refl e
  where
    by : (c : Bool) → (u == 93) ≡ c → cond {A = Option (Member × List ℕ)} (u == 92) (escaped_member_at us) (cond c None (Some (member.One u, us))) ≡ Some y → c ≡ false
    by false d e = refl
    by true d e = absurd (let is = eqb-true u 93 d in let none : cond {A = Option (Member × List ℕ)} (u == 92) (escaped_member_at us) None ≡ None = rw is refl in cc)

pub item_single : (us : List ℕ) (x : Member) (rest : List ℕ) → member_at us ≡ Some (x, rest) → begins_range rest ≡ false → item_at us ≡ Some (item.Single x, rest)
unfolding item_at
item_single us x rest m b = rw (m, b) refl

pub item_range : (us : List ℕ) (x : Member) (back : List ℕ) (v : Option (ClassItem × List ℕ)) → member_at us ≡ Some (x, 45 ∷ back) → starts is_close back ≡ false → range_at x (member_at back) ≡ v → item_at us ≡ v
unfolding item_at
item_range us x back v m s r = rw (m, s) r

-- `]` begins no member
range_close : (x : Member) (us : List ℕ) (v : ClassItem × List ℕ) → range_at x (member_at us) ≡ Some v → starts is_close us ≡ false
range_close x us v e = by (member_at us) refl e
  where
    by : (o : Option (Member × List ℕ)) → member_at us ≡ o → range_at x o ≡ Some v → starts is_close us ≡ false
    by None d e = absurd cc
    by (Some y) d e = no_close us y d

-- what an item is: a member alone, or the start of a range
pub item_parts : (us : List ℕ) (v : ClassItem) (rest : List ℕ) → item_at us ≡ Some (v, rest) → (x : Member) × (mid : List ℕ) × (member_at us ≡ Some (x, mid)) × (cond {A = Option (ClassItem × List ℕ)} (begins_range mid) (range_at x (member_at (drop 1 mid))) (Some (item.Single x, mid)) ≡ Some (v, rest))
unfolding item_at
item_parts us v rest e = by (member_at us) refl e
  where
    by : (o : Option (Member × List ℕ)) → member_at us ≡ o → item_from o ≡ Some (v, rest) → (x : Member) × (mid : List ℕ) × (member_at us ≡ Some (x, mid)) × (cond {A = Option (ClassItem × List ℕ)} (begins_range mid) (range_at x (member_at (drop 1 mid))) (Some (item.Single x, mid)) ≡ Some (v, rest))
    by None d e = absurd cc
    by (Some y) d e = (y.0, y.1, d, e)

-- what agrees begins no range where the other doesn't
abbrev pub Ranges : (List ℕ → List ℕ → Type 0) → Type 0
Ranges A = (rest more : List ℕ) → A rest more → begins_range rest ≡ false → begins_range more ≡ false

abbrev NoDigit : List ℕ → List ℕ → Type 0
NoDigit a b = starts is_digit a ≡ false → starts is_digit b ≡ false

no_digit : is_digit 45 ≡ false
unfolding is_digit
no_digit = refl

single_cut : (A : List ℕ → List ℕ → Type 0) → Digits A → Ranges A → (us : List ℕ) (x : Member) (mid : List ℕ) (v : ClassItem) (rest : List ℕ) → member_at us ≡ Some (x, mid) → begins_range mid ≡ false → (item.Single x ≡ v) × (mid ≡ rest) → Cut A ClassItem item_at us v rest
single_cut A h g us x mid v rest m b p =
    let c = cuts_member A h us x rest (m ∙ ap (λ (q : List ℕ). Some (x, q)) p.1) in
    let none : begins_range rest ≡ false = subst (λ (q : List ℕ). begins_range q ≡ false) p.1 b in
    record { part = c.part; parts = c.parts; again = λ more a. item_single (c.part ++ more) x more (c.again more a) (g rest more a none) ∙ ap (λ (q : ClassItem). Some (q, more)) p.0 }

double_cut : (A : List ℕ → List ℕ → Type 0) → Digits A → (us : List ℕ) (x : Member) (back : List ℕ) (v : ClassItem) (rest : List ℕ) → member_at us ≡ Some (x, 45 ∷ back) → range_at x (member_at back) ≡ Some (v, rest) → Cut A ClassItem item_at us v rest
double_cut A h us x back v rest m e =
    let r = range_cut A h x back v rest e in
    let c = cuts_member NoDigit (λ a b k. k) us x (45 ∷ back) m in
    record {
      part = c.part ++ 45 ∷ r.part;
      parts = c.parts ∙ ap (λ (q : List ℕ). c.part ++ 45 ∷ q) r.parts ∙ sym (append_assoc c.part (45 ∷ r.part) rest);
      again = λ more a.
          let there = r.again more a in
          let front : member_at ((c.part ++ 45 ∷ r.part) ++ more) ≡ Some (x, 45 ∷ r.part ++ more) = rw (append_assoc c.part (45 ∷ r.part) more) (c.again (45 ∷ r.part ++ more) (λ k. no_digit)) in
          item_range ((c.part ++ 45 ∷ r.part) ++ more) x (r.part ++ more) (Some (v, more)) front (range_close x (r.part ++ more) (v, more) there) there;
    }

pub cuts_item : (A : List ℕ → List ℕ → Type 0) → Digits A → Ranges A → Cuts A ClassItem item_at
cuts_item A h g us v rest e =
    let p = item_parts us v rest e in
    by p.0 p.1 p.2 (begins_range p.1) refl p.3
  where
    by : (x : Member) (mid : List ℕ) → member_at us ≡ Some (x, mid) → (c : Bool) → begins_range mid ≡ c → cond {A = Option (ClassItem × List ℕ)} c (range_at x (member_at (drop 1 mid))) (Some (item.Single x, mid)) ≡ Some (v, rest) → Cut A ClassItem item_at us v rest
    by x mid m true b e = double_cut A h us x (drop 1 mid) v rest (m ∙ ap (λ (q : List ℕ). Some (x, q)) (hyphen mid b)) e
    by x mid m false b e = single_cut A h g us x mid v rest m b (parts_same ClassItem (List ℕ) (item.Single x, mid) (v, rest) e)
