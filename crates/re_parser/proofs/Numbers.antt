-- Braces and quantifiers are read again in front of units that agree with those behind them.
use Rattle.std.proofs.Common.{◌≡◌, ℕ, ◌+◌, ◌<◌, Bool, true, false, cond, List, [], ◌∷◌, ◌++◌, length, Option, Some, None, refl, sym, ap, subst, ◌∙◌, append_assoc, arith}
use Rattle.std.specs.Prelude.{◌==◌, ◌||◌, ◌*◌, ◌-◌, min}
use Rattle.std.specs.List.{list_all}
use Rattle.std.proofs.lemmas.Bool.{and_parts, eqb-true}
use Rattle.std.proofs.lemmas.List.{length-append}
use Rattle.re_parser.specs.Agreement.{Agree, is_question}
use Rattle.js_units.specs.Characters.{is_digit}
use Rattle.re_parser.specs.Escapes.{starts}
use Rattle.re_parser.specs.Quantifiers.{digits_from, number_at, closed_by, most_by, behind_least, least_by, braces_at, is_proper, lazy_by, braced_by, quantifier_at}
use Rattle.re_parser.specs.declared.kinds.Braces.{Braces}
use Rattle.re_parser.specs.declared.kinds.Quantifier.{Quantifier}
use Rattle.re_parser.proofs.Members.{parts_same}
use Rattle.re_parser.proofs.Cuts.{Cut, Cuts, Digits, cuts_none, cuts_cond, cuts_cons}

-- ---- numbers

-- what may stand in braces that count
abbrev pub is_inner : ℕ → Bool
is_inner u = is_digit u || (u == 44)

inner_more : (a b : List ℕ) → list_all is_inner a ≡ true → list_all is_inner b ≡ true → list_all is_inner (a ++ b) ≡ true
inner_more [] b h k = k
inner_more (u ∷ a) b h k =
    let p = and_parts (is_inner u) (list_all is_inner a) h in
    rw (p.0, inner_more a b p.1 k) refl

pub record DigitsCut (A : List ℕ → List ℕ → Type 0) (value : ℕ) (us : List ℕ) (n : ℕ) (rest : List ℕ) : Type 0 where
  pub part : List ℕ
  pub parts : us ≡ part ++ rest
  pub again : (more : List ℕ) → A rest more → digits_from value (part ++ more) ≡ (n, more)
  pub none : starts is_digit rest ≡ false
  pub counts : list_all is_inner part ≡ true

pub digits_stop : (value : ℕ) (more : List ℕ) → starts is_digit more ≡ false → digits_from value more ≡ (value, more)
digits_stop value [] e = refl
digits_stop value (u ∷ us) e = rw e refl

abbrev pub counted : ℕ → List ℕ → ℕ × List ℕ
counted x more = (x, more)

pub digits_none : (A : List ℕ → List ℕ → Type 0) → Digits A → (value : ℕ) (us : List ℕ) (n : ℕ) (rest : List ℕ) → starts is_digit us ≡ false → digits_from value us ≡ (n, rest) → DigitsCut A value us n rest
digits_none A h value us n rest d e =
    let all : digits_from value us ≡ (value, us) = digits_stop value us d in
    let both : (value, us) ≡ (n, rest) = sym all ∙ e in
    let same : us ≡ rest = ap (λ (x : ℕ × List ℕ). x.1) both in
    let is : value ≡ n = ap (λ (x : ℕ × List ℕ). x.0) both in
    let none : starts is_digit rest ≡ false = subst (λ (q : List ℕ). starts is_digit q ≡ false) same d in
    record { part = []; parts = same; again = λ more a. digits_stop value more (h rest more a none) ∙ ap (λ (x : ℕ). counted x more) is; none = none; counts = refl }

pub digits_cut : (A : List ℕ → List ℕ → Type 0) → Digits A → (us : List ℕ) (value n : ℕ) (rest : List ℕ) → digits_from value us ≡ (n, rest) → DigitsCut A value us n rest
digits_cut A h [] value n rest e = digits_none A h value [] n rest refl e
digits_cut A h (u ∷ us) value n rest e = by (is_digit u) refl (λ f. digits_cut A h us (min (value * 10 + (u - 48)) 65536) n rest f) e
  where
    by : (c : Bool) → is_digit u ≡ c → (digits_from (min (value * 10 + (u - 48)) 65536) us ≡ (n, rest) → DigitsCut A (min (value * 10 + (u - 48)) 65536) us n rest) → cond {A = ℕ × List ℕ} c (digits_from (min (value * 10 + (u - 48)) 65536) us) (value, u ∷ us) ≡ (n, rest) → DigitsCut A value (u ∷ us) n rest
    by true d k e =
        let r = k e in
        record { part = u ∷ r.part; parts = ap (λ (x : List ℕ). u ∷ x) r.parts; again = λ more a. rw d (r.again more a); none = r.none; counts = rw (d, r.counts) refl }
    by false d k e = digits_none A h value (u ∷ us) n rest d (rw d e)

-- braces are read to their `}`, whatever is behind
pub record Closing (F : List ℕ → Option (Braces × List ℕ)) (us : List ℕ) (v : Braces) (rest : List ℕ) : Type 0 where
  pub part : List ℕ
  pub inner : List ℕ
  pub counts : list_all is_inner inner ≡ true
  pub is : part ≡ inner ++ 125 ∷ []
  pub parts : us ≡ part ++ rest
  pub some : 0 < length part
  pub again : (more : List ℕ) → F (part ++ more) ≡ Some (v, more)

closed_closing : (least : ℕ) (most : Option ℕ) (us : List ℕ) (v : Braces) (rest : List ℕ) → closed_by least most us ≡ Some (v, rest) → Closing (λ (x : List ℕ). closed_by least most x) us v rest
closed_closing least most [] v rest e = absurd cc
closed_closing least most (u ∷ us) v rest e = by (u == 125) refl e
  where
    by : (c : Bool) → (u == 125) ≡ c → cond {A = Option (Braces × List ℕ)} c (Some (record { least = least; most = most }, us)) None ≡ Some (v, rest) → Closing (λ (x : List ℕ). closed_by least most x) (u ∷ us) v rest
    by false d e = absurd cc
    by true d e =
        let p = parts_same Braces (List ℕ) (record { least = least; most = most }, us) (v, rest) e in
        record { part = u ∷ []; inner = []; counts = refl; is = ap (λ (x : ℕ). x ∷ []) (eqb-true u 125 d); parts = ap (λ (x : List ℕ). u ∷ x) p.1; some = omega arith; again = λ more. rw d (ap (λ (x : Braces). Some (x, more)) p.0) }

number_some : (us : List ℕ) (n : ℕ) (rest : List ℕ) → number_at us ≡ Some (n, rest) → (starts is_digit us ≡ true) × (digits_from 0 us ≡ (n, rest))
unfolding number_at
number_some us n rest e = by (starts is_digit us) refl e
  where
    by : (c : Bool) → starts is_digit us ≡ c → cond {A = Option (ℕ × List ℕ)} c (Some (digits_from 0 us)) None ≡ Some (n, rest) → (starts is_digit us ≡ true) × (digits_from 0 us ≡ (n, rest))
    by true d e = (d, cc)
    by false d e = absurd cc

number_again : (us : List ℕ) (n : ℕ) (rest : List ℕ) → starts is_digit us ≡ true → digits_from 0 us ≡ (n, rest) → number_at us ≡ Some (n, rest)
unfolding number_at
number_again us n rest e f = rw (e, f) refl

starts_part : (test : ℕ → Bool) (part rest more : List ℕ) → 0 < length part → starts test (part ++ rest) ≡ starts test (part ++ more)
starts_part test [] rest more h = absurd (omega arith)
starts_part test (u ∷ part) rest more h = refl

-- a number in front, behind which the same unit stands
record Number (us : List ℕ) (n : ℕ) (rest : List ℕ) : Type 0 where
  part : List ℕ
  parts : us ≡ part ++ rest
  some : 0 < length part
  again : (more : List ℕ) → starts is_digit more ≡ false → number_at (part ++ more) ≡ Some (n, more)
  counts : list_all is_inner part ≡ true

abbrev NoDigit : List ℕ → List ℕ → Type 0
NoDigit a b = starts is_digit b ≡ false

number_cut : (us : List ℕ) (n : ℕ) (rest : List ℕ) → number_at us ≡ Some (n, rest) → Number us n rest
number_cut us n rest e =
    let s = number_some us n rest e in
    let c = digits_cut NoDigit (λ a b h f. h) us 0 n rest s.1 in
    let more : 0 < length c.part = long c.part c.parts c.none s.0 in
    record {
      part = c.part;
      parts = c.parts;
      some = more;
      again = λ b h. number_again (c.part ++ b) n b (starts_part is_digit c.part b rest more ∙ ap (λ (x : List ℕ). starts is_digit x) (sym c.parts) ∙ s.0) (c.again b h);
      counts = c.counts;
    }
  where
    long : (part : List ℕ) → us ≡ part ++ rest → starts is_digit rest ≡ false → starts is_digit us ≡ true → 0 < length part
    long [] p f g = absurd (let no : starts is_digit us ≡ false = subst (λ (q : List ℕ). starts is_digit q ≡ false) (sym p) f in cc)
    long (u ∷ part) p f g = omega arith

-- no digit begins what braces close with
closed_digit : (least : ℕ) (most : Option ℕ) (part more : List ℕ) (v : Braces) → closed_by least most (part ++ more) ≡ Some (v, more) → 0 < length part → starts is_digit (part ++ more) ≡ false
unfolding is_digit
closed_digit least most [] more v e h = absurd (omega arith)
closed_digit least most (u ∷ part) more v e h = deep (u == 125) refl e
  where
    deep : (c : Bool) → (u == 125) ≡ c → cond {A = Option (Braces × List ℕ)} c (Some (record { least = least; most = most }, part ++ more)) None ≡ Some (v, more) → is_digit u ≡ false
    deep true d e = rw (eqb-true u 125 d) refl
    deep false d e = absurd cc

number_none : (us : List ℕ) → starts is_digit us ≡ false → number_at us ≡ None
unfolding number_at
number_none us e = rw e refl

most_closing : (least : ℕ) (us : List ℕ) (v : Braces) (rest : List ℕ) → most_by least us (number_at us) ≡ Some (v, rest) → Closing (λ (x : List ℕ). most_by least x (number_at x)) us v rest
most_closing least us v rest e = by (number_at us) refl e
  where
    by : (o : Option (ℕ × List ℕ)) → number_at us ≡ o → most_by least us o ≡ Some (v, rest) → Closing (λ (x : List ℕ). most_by least x (number_at x)) us v rest
    by None d e =
        let c = closed_closing least None us v rest e in
        record {
          part = c.part;
          inner = c.inner;
          counts = c.counts;
          is = c.is;
          parts = c.parts;
          some = c.some;
          again = λ more. rw (number_none (c.part ++ more) (closed_digit least None c.part more v (c.again more) c.some)) (c.again more);
        }
    by (Some x) d e =
        let n = number_cut us x.0 x.1 d in
        let c = closed_closing least (Some x.0) x.1 v rest e in
        record {
          part = n.part ++ c.part;
          inner = n.part ++ c.inner;
          counts = inner_more n.part c.inner n.counts c.counts;
          is = ap (λ (q : List ℕ). n.part ++ q) c.is ∙ sym (append_assoc n.part c.inner (125 ∷ []));
          parts = n.parts ∙ ap (λ (q : List ℕ). n.part ++ q) c.parts ∙ sym (append_assoc n.part c.part rest);
          some = omega (arith, length-append n.part c.part, n.some);
          again = λ more.
              let there = n.again (c.part ++ more) (closed_digit least (Some x.0) c.part more v (c.again more) c.some) in
              rw (append_assoc n.part c.part more, there) (c.again more);
        }

behind_closing : (least : ℕ) (us : List ℕ) (v : Braces) (rest : List ℕ) → behind_least least us ≡ Some (v, rest) → Closing (λ (x : List ℕ). behind_least least x) us v rest
unfolding is_digit
behind_closing least [] v rest e = absurd cc
behind_closing least (u ∷ us) v rest e = by (u == 44) refl e
  where
    by : (c : Bool) → (u == 44) ≡ c → cond {A = Option (Braces × List ℕ)} c (most_by least us (number_at us)) (closed_by least (Some least) (u ∷ us)) ≡ Some (v, rest) → Closing (λ (x : List ℕ). behind_least least x) (u ∷ us) v rest
    by true d e =
        let c = most_closing least us v rest e in
        record { part = u ∷ c.part; inner = u ∷ c.inner; counts = rw (eqb-true u 44 d, c.counts) refl; is = ap (λ (x : List ℕ). u ∷ x) c.is; parts = ap (λ (x : List ℕ). u ∷ x) c.parts; some = omega arith; again = λ more. rw d (c.again more) }
    by false d e =
        let c = closed_closing least (Some least) (u ∷ us) v rest e in
        front c.part c.parts c.some c.again c.inner c.counts c.is
      where
        front : (part : List ℕ) → u ∷ us ≡ part ++ rest → 0 < length part → ((more : List ℕ) → closed_by least (Some least) (part ++ more) ≡ Some (v, more)) → (inner : List ℕ) → list_all is_inner inner ≡ true → part ≡ inner ++ 125 ∷ [] → Closing (λ (x : List ℕ). behind_least least x) (u ∷ us) v rest
        front [] p h a inner counts is = absurd (omega arith)
        front (w ∷ part) p h a inner counts is =
            let same : u ≡ w = cc in
            record { part = w ∷ part; inner = inner; counts = counts; is = is; parts = p; some = h; again = λ more. rw (← same, d) (let b = a more in rw (← same) at b) }

-- no digit begins what stands behind a number in braces
behind_digit : (least : ℕ) (part more : List ℕ) (v : Braces) → behind_least least (part ++ more) ≡ Some (v, more) → 0 < length part → starts is_digit (part ++ more) ≡ false
unfolding is_digit
behind_digit least [] more v e h = absurd (omega arith)
behind_digit least (u ∷ part) more v e h = deep (u == 44) refl e
  where
    deep : (c : Bool) → (u == 44) ≡ c → cond {A = Option (Braces × List ℕ)} c (most_by least (part ++ more) (number_at (part ++ more))) (closed_by least (Some least) (u ∷ part ++ more)) ≡ Some (v, more) → is_digit u ≡ false
    deep true d e = rw (eqb-true u 44 d) refl
    deep false d e = closed_digit least (Some least) (u ∷ part) more v e h

pub braces_closing : (us : List ℕ) (v : Braces) (rest : List ℕ) → braces_at us ≡ Some (v, rest) → Closing braces_at us v rest
unfolding braces_at
braces_closing us v rest e = by (number_at us) refl e
  where
    by : (o : Option (ℕ × List ℕ)) → number_at us ≡ o → least_by o ≡ Some (v, rest) → Closing braces_at us v rest
    by None d e = absurd cc
    by (Some x) d e =
        let n = number_cut us x.0 x.1 d in
        let c = behind_closing x.0 x.1 v rest e in
        record {
          part = n.part ++ c.part;
          inner = n.part ++ c.inner;
          counts = inner_more n.part c.inner n.counts c.counts;
          is = ap (λ (q : List ℕ). n.part ++ q) c.is ∙ sym (append_assoc n.part c.inner (125 ∷ []));
          parts = n.parts ∙ ap (λ (q : List ℕ). n.part ++ q) c.parts ∙ sym (append_assoc n.part c.part rest);
          some = omega (arith, length-append n.part c.part, n.some);
          again = λ more.
              let there = n.again (c.part ++ more) (behind_digit x.0 c.part more v (c.again more) c.some) in
              rw (append_assoc n.part c.part more, there) (c.again more);
        }

-- ---- quantifiers

pub record QuantifierCut (us : List ℕ) (q : Quantifier) (rest : List ℕ) : Type 0 where
  pub part : List ℕ
  pub parts : us ≡ part ++ rest
  pub again : (more : List ℕ) → Agree rest more → quantifier_at (part ++ more) ≡ Some (q, more)

-- what a mark or braces make of what is behind them
lazy_cut : (least : ℕ) (most : Option ℕ) → Cuts Agree Quantifier (λ (us : List ℕ). lazy_by least most us)
lazy_cut least most [] v rest e =
    let p = parts_same Quantifier (List ℕ) (record { min = least; max = most; lazy = false }, []) (v, rest) e in
    record { part = []; parts = p.1; again = λ more a. eager least most more v (a.question (subst (λ (q : List ℕ). starts is_question q ≡ false) p.1 refl)) p.0 }
  where
    eager : (least : ℕ) (most : Option ℕ) (more : List ℕ) (v : Quantifier) → starts is_question more ≡ false → record { min = least; max = most; lazy = false } ≡ v → lazy_by least most more ≡ Some (v, more)
    eager least most [] v n p = ap (λ (x : Quantifier). Some (x, [])) p
    eager least most (u ∷ us) v n p = rw n (ap (λ (x : Quantifier). Some (x, u ∷ us)) p)
lazy_cut least most (u ∷ us) v rest e = by (u == 63) refl e
  where
    eager : (more : List ℕ) → starts is_question more ≡ false → record { min = least; max = most; lazy = false } ≡ v → lazy_by least most more ≡ Some (v, more)
    eager [] n p = ap (λ (x : Quantifier). Some (x, [])) p
    eager (u ∷ us) n p = rw n (ap (λ (x : Quantifier). Some (x, u ∷ us)) p)

    by : (c : Bool) → (u == 63) ≡ c → cond {A = Option (Quantifier × List ℕ)} c (Some (record { min = least; max = most; lazy = true }, us)) (Some (record { min = least; max = most; lazy = false }, u ∷ us)) ≡ Some (v, rest) → Cut Agree Quantifier (λ (us : List ℕ). lazy_by least most us) (u ∷ us) v rest
    by true d e =
        let p = parts_same Quantifier (List ℕ) (record { min = least; max = most; lazy = true }, us) (v, rest) e in
        record { part = u ∷ []; parts = ap (λ (x : List ℕ). u ∷ x) p.1; again = λ more a. rw d (ap (λ (x : Quantifier). Some (x, more)) p.0) }
    by false d e =
        let p = parts_same Quantifier (List ℕ) (record { min = least; max = most; lazy = false }, u ∷ us) (v, rest) e in
        record { part = []; parts = p.1; again = λ more a. eager more (a.question (subst (λ (q : List ℕ). starts is_question q ≡ false) p.1 d)) p.0 }

braced_cut : Cuts Agree Quantifier (λ (us : List ℕ). braced_by (braces_at us))
braced_cut us v rest e = by (braces_at us) refl e
  where
    by : (o : Option (Braces × List ℕ)) → braces_at us ≡ o → braced_by o ≡ Some (v, rest) → Cut Agree Quantifier (λ (us : List ℕ). braced_by (braces_at us)) us v rest
    by None d e = absurd cc
    by (Some x) d e = deep (is_proper x.0) refl e
      where
        deep : (c : Bool) → is_proper x.0 ≡ c → cond {A = Option (Quantifier × List ℕ)} c (lazy_by x.0.least x.0.most x.1) None ≡ Some (v, rest) → Cut Agree Quantifier (λ (us : List ℕ). braced_by (braces_at us)) us v rest
        deep false g e = absurd cc
        deep true g e =
            let b = braces_closing us x.0 x.1 d in
            let c = lazy_cut x.0.least x.0.most x.1 v rest e in
            record {
              part = b.part ++ c.part;
              parts = b.parts ∙ ap (λ (q : List ℕ). b.part ++ q) c.parts ∙ sym (append_assoc b.part c.part rest);
              again = λ more a. rw (append_assoc b.part c.part more, b.again (c.part ++ more), g) (c.again more a);
            }

pub quantifier_cut : Cuts Agree Quantifier quantifier_at
unfolding quantifier_at
quantifier_cut = cuts_cons Agree Quantifier quantifier_at refl (λ u.
    cuts_cond Agree Quantifier (u == 42) (λ (us : List ℕ). lazy_by 0 None us) (λ (us : List ℕ). cond (u == 43) (lazy_by 1 None us) (cond (u == 63) (lazy_by 0 (Some 1) us) (cond (u == 123) (braced_by (braces_at us)) None))) (lazy_cut 0 None)
    (cuts_cond Agree Quantifier (u == 43) (λ (us : List ℕ). lazy_by 1 None us) (λ (us : List ℕ). cond (u == 63) (lazy_by 0 (Some 1) us) (cond (u == 123) (braced_by (braces_at us)) None)) (lazy_cut 1 None)
    (cuts_cond Agree Quantifier (u == 63) (λ (us : List ℕ). lazy_by 0 (Some 1) us) (λ (us : List ℕ). cond (u == 123) (braced_by (braces_at us)) None) (lazy_cut 0 (Some 1))
    (cuts_cond Agree Quantifier (u == 123) (λ (us : List ℕ). braced_by (braces_at us)) (λ (us : List ℕ). None) braced_cut (cuts_none Agree Quantifier)))))
