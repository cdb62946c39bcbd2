-- Which units agree.
use Rattle.std.proofs.Common.{◌≡◌, ℕ, Bool, true, false, cond, List, [], ◌∷◌, ◌++◌, Option, Some, None, refl, sym, ap, subst, ◌∙◌, append_assoc}
use Rattle.std.specs.Prelude.{◌==◌, ◌&&◌, ◌||◌, not}
use Rattle.std.specs.List.{list_all}
use Rattle.std.proofs.lemmas.Bool.{and_parts}
use Rattle.re_parser.specs.Agreement.{Agree, AgreeInside, is_question, is_caret}
use Rattle.js_units.specs.Characters.{is_digit}
use Rattle.re_parser.specs.Escapes.{starts, is_close, begins_range}
use Rattle.re_parser.specs.Quantifiers.{braces_at, is_proper, lazy_by, braced_by, quantifier_at}
use Rattle.re_parser.specs.declared.kinds.Braces.{Braces}
use Rattle.re_parser.specs.declared.kinds.Quantifier.{Quantifier}
use Rattle.re_parser.proofs.Numbers.{is_inner, braces_closing}

-- ---- behind the same units

starts_behind : (test : ℕ → Bool) (front rest more : List ℕ) → (starts test rest ≡ false → starts test more ≡ false) → starts test (front ++ rest) ≡ false → starts test (front ++ more) ≡ false
starts_behind test [] rest more h e = h e
starts_behind test (u ∷ front) rest more h e = e

none_behind : (V : Type 0) (F : List ℕ → Option V) (front rest more : List ℕ) → ((f : List ℕ) → F (f ++ rest) ≡ None → F (f ++ more) ≡ None) → (f : List ℕ) → F (f ++ (front ++ rest)) ≡ None → F (f ++ (front ++ more)) ≡ None
none_behind V F front rest more h f e =
    subst (λ (q : List ℕ). F q ≡ None) (append_assoc f front more) (h (f ++ front) (subst (λ (q : List ℕ). F q ≡ None) (sym (append_assoc f front rest)) e))

pub agree_behind : (front rest more : List ℕ) → Agree rest more → Agree (front ++ rest) (front ++ more)
agree_behind front rest more a = record {
  digit = starts_behind is_digit front rest more a.digit;
  question = starts_behind is_question front rest more a.question;
  caret = starts_behind is_caret front rest more a.caret;
  quantifier = none_behind (Quantifier × List ℕ) quantifier_at front rest more a.quantifier;
  braces = none_behind (Braces × List ℕ) braces_at front rest more a.braces;
}

pub agree_same : (units : List ℕ) → Agree units units
agree_same units = record { digit = λ e. e; question = λ e. e; caret = λ e. e; quantifier = λ f e. e; braces = λ f e. e }

-- ---- braces

abbrev pub is_brace : ℕ → Bool
is_brace u = is_inner u || (u == 125)

pub record Shut (front inner : List ℕ) : Type 0 where
  pub tail : List ℕ → List ℕ
  pub is : (s : List ℕ) → front ++ s ≡ inner ++ 125 ∷ tail s

-- braces that units don't close are closed in front of them
pub shut_front : (front more inner rest : List ℕ) → front ++ more ≡ inner ++ 125 ∷ rest → starts is_brace more ≡ false → list_all is_inner inner ≡ true → Shut front inner
unfolding is_digit
shut_front [] more [] rest e h k = absurd (let no : starts is_brace (125 ∷ rest) ≡ false = subst (λ (q : List ℕ). starts is_brace q ≡ false) e h in cc)
shut_front [] more (i ∷ inner) rest e h k = absurd (let no : starts is_brace (i ∷ inner ++ 125 ∷ rest) ≡ false = subst (λ (q : List ℕ). starts is_brace q ≡ false) e h in let yes_inner = (and_parts (is_inner i) (list_all is_inner inner) k).0 in let known : (true || (i == 125)) ≡ false = rw yes_inner at no in cc)
shut_front (c ∷ front) more [] rest e h k = let same : c ≡ 125 = cc in record { tail = λ s. front ++ s; is = λ s. ap (λ (q : ℕ). q ∷ (front ++ s)) same }
shut_front (c ∷ front) more (i ∷ inner) rest e h k =
    let same : c ≡ i = cc in
    let others : front ++ more ≡ inner ++ 125 ∷ rest = cc in
    let r = shut_front front more inner rest others h (and_parts (is_inner i) (list_all is_inner inner) k).1 in
    record { tail = r.tail; is = λ s. ap (λ (q : ℕ). q ∷ (front ++ s)) same ∙ ap (λ (q : List ℕ). i ∷ q) (r.is s) }

record ShutBy (front : List ℕ) (u : ℕ) (inner : List ℕ) : Type 0 where
  tail : List ℕ → List ℕ
  is : (s : List ℕ) → front ++ u ∷ s ≡ inner ++ 125 ∷ tail s

shut_by : (front : List ℕ) (u : ℕ) (more inner rest : List ℕ) → front ++ u ∷ more ≡ inner ++ 125 ∷ rest → is_inner u ≡ false → list_all is_inner inner ≡ true → ShutBy front u inner
shut_by [] u more [] rest e h k = let same : u ≡ 125 = cc in record { tail = λ s. s; is = λ s. ap (λ (q : ℕ). q ∷ s) same }
shut_by [] u more (i ∷ inner) rest e h k = absurd (let same : u ≡ i = cc in let counts = (and_parts (is_inner i) (list_all is_inner inner) k).0 in let no : is_inner i ≡ false = subst (λ (q : ℕ). is_inner q ≡ false) same h in cc)
shut_by (c ∷ front) u more [] rest e h k = let same : c ≡ 125 = cc in record { tail = λ s. front ++ u ∷ s; is = λ s. ap (λ (q : ℕ). q ∷ (front ++ u ∷ s)) same }
shut_by (c ∷ front) u more (i ∷ inner) rest e h k =
    let same : c ≡ i = cc in
    let others : front ++ u ∷ more ≡ inner ++ 125 ∷ rest = cc in
    let r = shut_by front u more inner rest others h (and_parts (is_inner i) (list_all is_inner inner) k).1 in
    record { tail = r.tail; is = λ s. ap (λ (q : ℕ). q ∷ (front ++ u ∷ s)) same ∙ ap (λ (q : List ℕ). i ∷ q) (r.is s) }

-- the same braces
abbrev Back : List ℕ → List ℕ → Type 0
Back units more = (f : List ℕ) (b : Braces) (rest : List ℕ) → braces_at (f ++ more) ≡ Some (b, rest) → (t : List ℕ) × (braces_at (f ++ units) ≡ Some (b, t))

closed_again : (part inner us tail : List ℕ) (b : Braces) → part ≡ inner ++ 125 ∷ [] → us ≡ inner ++ 125 ∷ tail → ((more : List ℕ) → braces_at (part ++ more) ≡ Some (b, more)) → braces_at us ≡ Some (b, tail)
closed_again part inner us tail b p e again =
    let all : part ++ tail ≡ us = ap (λ (q : List ℕ). q ++ tail) p ∙ append_assoc inner (125 ∷ []) tail ∙ sym e in
    subst (λ (q : List ℕ). braces_at q ≡ Some (b, tail)) all (again tail)

pub inner_parts : (us part inner rest : List ℕ) → us ≡ part ++ rest → part ≡ inner ++ 125 ∷ [] → us ≡ inner ++ 125 ∷ rest
inner_parts us part inner rest e p = e ∙ ap (λ (q : List ℕ). q ++ rest) p ∙ append_assoc inner (125 ∷ []) rest

back_end : (units more : List ℕ) → starts is_brace more ≡ false → Back units more
back_end units more h f b rest e =
    let c = braces_closing (f ++ more) b rest e in
    let s = shut_front f more c.inner rest (inner_parts (f ++ more) c.part c.inner rest c.parts c.is) h c.counts in
    (s.tail units, closed_again c.part c.inner (f ++ units) (s.tail units) b c.is (s.is units) c.again)

back_first : (u : ℕ) (us more : List ℕ) → is_inner u ≡ false → Back (u ∷ us) (u ∷ more)
back_first u us more h f b rest e =
    let c = braces_closing (f ++ u ∷ more) b rest e in
    let s = shut_by f u more c.inner rest (inner_parts (f ++ u ∷ more) c.part c.inner rest c.parts c.is) h c.counts in
    (s.tail us, closed_again c.part c.inner (f ++ u ∷ us) (s.tail us) b c.is (s.is us) c.again)

-- ---- quantifiers

lazy_never : (least : ℕ) (most : Option ℕ) (us : List ℕ) → lazy_by least most us ≡ None → ⊥
lazy_never least most [] e = cc
lazy_never least most (u ∷ us) e = by (u == 63) e
  where
    by : (c : Bool) → cond {A = Option (Quantifier × List ℕ)} c (Some (record { min = least; max = most; lazy = true }, us)) (Some (record { min = least; max = most; lazy = false }, u ∷ us)) ≡ None → ⊥
    by true e = cc
    by false e = cc

skip : (c : Bool) (least : ℕ) (most : Option ℕ) (us vs : List ℕ) (o p : Option (Quantifier × List ℕ)) → cond c (lazy_by least most us) o ≡ None → (o ≡ None → p ≡ None) → cond c (lazy_by least most vs) p ≡ None
skip true least most us vs o p e k = absurd (lazy_never least most us e)
skip false least most us vs o p e k = k e

braced_none : (us vs : List ℕ) → Back us vs → braced_by (braces_at us) ≡ None → braced_by (braces_at vs) ≡ None
braced_none us vs h e = by (braces_at vs) refl
  where
    deep : (x : Braces × List ℕ) (t : List ℕ) (c : Bool) → is_proper x.0 ≡ c → cond {A = Option (Quantifier × List ℕ)} c (lazy_by x.0.least x.0.most t) None ≡ None → cond {A = Option (Quantifier × List ℕ)} c (lazy_by x.0.least x.0.most x.1) None ≡ None
    deep x t true d e = absurd (lazy_never x.0.least x.0.most t e)
    deep x t false d e = refl

    by : (o : Option (Braces × List ℕ)) → braces_at vs ≡ o → braced_by o ≡ None
    by None d = refl
    by (Some x) d =
        let s = h [] x.0 x.1 d in
        let none : braced_by (Some (x.0, s.0)) ≡ None = ap braced_by (sym s.1) ∙ e in
        deep x s.0 (is_proper x.0) refl none

last : (c : Bool) (us vs : List ℕ) → (c ≡ true → Back us vs) → cond {A = Option (Quantifier × List ℕ)} c (braced_by (braces_at us)) None ≡ None → cond {A = Option (Quantifier × List ℕ)} c (braced_by (braces_at vs)) None ≡ None
last true us vs h e = braced_none us vs (h refl) e
last false us vs h e = refl

quantifier_none : (c : ℕ) (us vs : List ℕ) → ((c == 123) ≡ true → Back us vs) → quantifier_at (c ∷ us) ≡ None → quantifier_at (c ∷ vs) ≡ None
unfolding quantifier_at
quantifier_none c us vs h e =
    skip (c == 42) 0 None us vs (cond (c == 43) (lazy_by 1 None us) (cond (c == 63) (lazy_by 0 (Some 1) us) (cond (c == 123) (braced_by (braces_at us)) None))) (cond (c == 43) (lazy_by 1 None vs) (cond (c == 63) (lazy_by 0 (Some 1) vs) (cond (c == 123) (braced_by (braces_at vs)) None))) e
    (λ f. skip (c == 43) 1 None us vs (cond (c == 63) (lazy_by 0 (Some 1) us) (cond (c == 123) (braced_by (braces_at us)) None)) (cond (c == 63) (lazy_by 0 (Some 1) vs) (cond (c == 123) (braced_by (braces_at vs)) None)) f
    (λ g. skip (c == 63) 0 (Some 1) us vs (cond (c == 123) (braced_by (braces_at us)) None) (cond (c == 123) (braced_by (braces_at vs)) None) g (last (c == 123) us vs h)))

back_behind : (c : ℕ) (units more f : List ℕ) → Back units more → Back (f ++ units) (f ++ more)
back_behind c units more f h g b rest e =
    let there = h (g ++ f) b rest (subst (λ (q : List ℕ). braces_at q ≡ Some (b, rest)) (sym (append_assoc g f more)) e) in
    (there.0, subst (λ (q : List ℕ). braces_at q ≡ Some (b, there.0)) (append_assoc g f units) there.1)

-- ---- what agrees

braces_none : (units more : List ℕ) → Back units more → (f : List ℕ) → braces_at (f ++ units) ≡ None → braces_at (f ++ more) ≡ None
braces_none units more h f e = by (braces_at (f ++ more)) refl
  where
    by : (o : Option (Braces × List ℕ)) → braces_at (f ++ more) ≡ o → braces_at (f ++ more) ≡ None
    by None d = d
    by (Some x) d = absurd (let s = h f x.0 x.1 d in let some = s.1 in cc)

quantifiers_none : (units more : List ℕ) → Back units more → (quantifier_at units ≡ None → quantifier_at more ≡ None) → (f : List ℕ) → quantifier_at (f ++ units) ≡ None → quantifier_at (f ++ more) ≡ None
quantifiers_none units more h q [] e = q e
quantifiers_none units more h q (c ∷ f) e = quantifier_none c (f ++ units) (f ++ more) (λ d. back_behind c units more f h) e

-- units that begin nothing that could go on in front of them agree with all
pub agree_end : (units more : List ℕ) → starts is_brace more ≡ false → starts is_digit more ≡ false → starts is_question more ≡ false → starts is_caret more ≡ false → quantifier_at more ≡ None → Agree units more
agree_end units more b d q c n = record {
  digit = λ e. d;
  question = λ e. q;
  caret = λ e. c;
  quantifier = quantifiers_none units more (back_end units more b) (λ e. n);
  braces = braces_none units more (back_end units more b);
}

-- the same first unit, which neither counts in braces nor begins them
pub agree_first : (u : ℕ) (us more : List ℕ) → is_inner u ≡ false → (u == 123) ≡ false → Agree (u ∷ us) (u ∷ more)
agree_first u us more h n = record {
  digit = λ e. e;
  question = λ e. e;
  caret = λ e. e;
  quantifier = quantifiers_none (u ∷ us) (u ∷ more) (back_first u us more h) (quantifier_none u us more (λ d. absurd cc));
  braces = braces_none (u ∷ us) (u ∷ more) (back_first u us more h);
}

-- ---- in classes

range_behind : (front rest more : List ℕ) → ((f : List ℕ) → begins_range (f ++ rest) ≡ false → begins_range (f ++ more) ≡ false) → (f : List ℕ) → begins_range (f ++ (front ++ rest)) ≡ false → begins_range (f ++ (front ++ more)) ≡ false
range_behind front rest more h f e =
    subst (λ (q : List ℕ). begins_range q ≡ false) (append_assoc f front more) (h (f ++ front) (subst (λ (q : List ℕ). begins_range q ≡ false) (sym (append_assoc f front rest)) e))

pub inside_behind : (front rest more : List ℕ) → AgreeInside rest more → AgreeInside (front ++ rest) (front ++ more)
inside_behind front rest more a = record { digit = starts_behind is_digit front rest more a.digit; range = range_behind front rest more a.range }

pub inside_same : (units : List ℕ) → AgreeInside units units
inside_same units = record { digit = λ e. e; range = λ f e. e }

-- the same two units in front, or a `]`
pub inside_two : (a b : ℕ) (us vs : List ℕ) → AgreeInside (a ∷ b ∷ us) (a ∷ b ∷ vs)
inside_two a b us vs = record { digit = λ e. e; range = by }
  where
    by : (f : List ℕ) → begins_range (f ++ a ∷ b ∷ us) ≡ false → begins_range (f ++ a ∷ b ∷ vs) ≡ false
    by [] e = e
    by (c ∷ []) e = e
    by (c ∷ d ∷ f) e = e

pub inside_close : (us vs : List ℕ) → AgreeInside (93 ∷ us) (93 ∷ vs)
inside_close us vs = record { digit = λ e. e; range = by }
  where
    by : (f : List ℕ) → begins_range (f ++ 93 ∷ us) ≡ false → begins_range (f ++ 93 ∷ vs) ≡ false
    by [] e = e
    by (c ∷ []) e = e
    by (c ∷ d ∷ f) e = e

-- at the end of the units
pub inside_end : (more : List ℕ) → starts is_digit more ≡ false → begins_range more ≡ false → AgreeInside [] more
inside_end more d r = record { digit = λ e. d; range = by }
  where
    alone : (c : ℕ) (x : Bool) → (c == 45) ≡ x → (x && true) ≡ false → (x && not (starts is_close more)) ≡ false
    alone c true d e = absurd cc
    alone c false d e = refl

    by : (f : List ℕ) → begins_range (f ++ []) ≡ false → begins_range (f ++ more) ≡ false
    by [] e = r
    by (c ∷ []) e = alone c (c == 45) refl e
    by (c ∷ d ∷ f) e = e
