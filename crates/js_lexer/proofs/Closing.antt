-- Texts up to their closing quote.
use Rattle.std.proofs.Common.{◌≡◌, ℕ, ◌<◌, Bool, true, false, cond, List, [], ◌∷◌, ◌++◌, length, Option, Some, None, refl, sym, ap, subst, ◌∙◌, append_assoc}
use Rattle.std.specs.Prelude.{◌==◌}
use Rattle.std.proofs.lemmas.List.{append-nil}
use Rattle.js_lexer.specs.Runs.{starts}
use Rattle.js_lexer.specs.Texts.{IsEscape, escape_character, escape_zero, escape_byte, escape_unit, escape_point, escape_cr_lf, escape_line_end, IsCharacter, character_plain, character_escape, IsQuoted, quoted_closes, quoted_more}
use Rattle.js_lexer.specs.Escapes.{Read, character_at, inside_at, close_at, HasQuoted, ClosesAt}
use Rattle.js_lexer.proofs.Quoting.{character_of, character_only}
use Rattle.js_lexer.proofs.Gaps.{IsPast, IsBehind, past_one, past_more, past_behind, behind_both, past_shorter}

-- ---- characters go on

escape_past : (units value rest : List ℕ) → IsEscape units value rest → IsPast units rest
escape_past _ _ _ (escape_character u rest e) = past_one u rest
escape_past _ _ _ (escape_zero rest e) = past_one 48 rest
escape_past _ _ _ (escape_byte a b rest ha hb) = record { first = 120; before = a ∷ b ∷ []; units_are = refl }
escape_past _ _ _ (escape_unit a b c d rest ha hb hc hd) = record { first = 117; before = a ∷ b ∷ c ∷ d ∷ []; units_are = refl }
escape_past _ _ _ (escape_point digits rest some all low) = record { first = 117; before = 123 ∷ digits ++ 125 ∷ []; units_are = ap (λ q. 117 ∷ 123 ∷ q) (sym (append_assoc digits (125 ∷ []) rest)) }
escape_past _ _ _ (escape_cr_lf rest) = record { first = 13; before = 10 ∷ []; units_are = refl }
escape_past _ _ _ (escape_line_end u rest e apart) = past_one u rest

character_past : (units value rest : List ℕ) → IsCharacter units value rest → IsPast units rest
character_past _ _ _ (character_plain u rest e) = past_one u rest
character_past _ _ _ (character_escape units value rest h) = past_more 92 units rest (past_behind units rest (escape_past units value rest h))

-- a character that was read is shorter than the units
pub character_shorter : (units : List ℕ) (r : Read) → character_at units ≡ Some r → length r.1 < length units
character_shorter units r e = past_shorter units r.1 (character_past units r.0 r.1 (character_of units r e))

pub quoted_behind : (quote : ℕ) (units value rest : List ℕ) → IsQuoted quote units value rest → IsBehind units rest
quoted_behind quote _ _ _ (quoted_closes u rest e) = past_behind (u ∷ rest) rest (past_one u rest)
quoted_behind quote _ _ _ (quoted_more units here mid later rest apart h more) = behind_both units mid rest (past_behind units mid (character_past units here mid h)) (quoted_behind quote mid later rest more)

-- ---- one step

-- the closing quote ends the text
record IsClosing (value rest after : List ℕ) : Type 0 where
  value_is : value ≡ []
  rest_is : rest ≡ after

quoted_close : (quote : ℕ) (units value rest : List ℕ) → IsQuoted quote units value rest → (u : ℕ) (us : List ℕ) → units ≡ u ∷ us → (u == quote) ≡ true → IsClosing value rest us
quoted_close quote _ _ _ (quoted_closes v rest e) u us same h = record { value_is = refl; rest_is = cc }
quoted_close quote _ _ _ (quoted_more units here mid later rest apart c more) u us same h = absurd (let other : starts (λ v. v == quote) units ≡ true = ap (starts (λ v. v == quote)) same ∙ h in cc)

-- what goes on goes on with a character
record IsStep (quote : ℕ) (units value rest : List ℕ) : Type 0 where
  here : List ℕ
  mid : List ℕ
  later : List ℕ
  read : character_at units ≡ Some (here, mid)
  value_is : value ≡ here ++ later
  more : IsQuoted quote mid later rest

quoted_step : (quote : ℕ) (units value rest : List ℕ) → IsQuoted quote units value rest → starts (λ v. v == quote) units ≡ false → IsStep quote units value rest
quoted_step quote _ _ _ (quoted_closes v rest e) h = absurd cc
quoted_step quote _ _ _ (quoted_more units here mid later rest apart c more) h = record { here = here; mid = mid; later = later; read = character_only units here mid c; value_is = refl; more = more }

same_read : (x y : Read) → Some x ≡ Some y → (x.0 ≡ y.0) × (x.1 ≡ y.1)
same_read x y e = (cc, cc)

-- a step that was read is the one
quoted_next : (quote : ℕ) (units value rest : List ℕ) (r : Read) → IsQuoted quote units value rest → starts (λ v. v == quote) units ≡ false → character_at units ≡ Some r → (later : List ℕ) × (value ≡ r.0 ++ later) × IsQuoted quote r.1 later rest
quoted_next quote units value rest r q apart e =
    let s = quoted_step quote units value rest q apart in
    let same = same_read (s.here, s.mid) r (sym s.read ∙ e) in
    (s.later, s.value_is ∙ ap (λ w. w ++ s.later) same.0, subst (λ (w : List ℕ). IsQuoted quote w s.later rest) same.1 s.more)

-- ---- one text at most

pub record IsSame (value rest other behind : List ℕ) : Type 0 where
  pub value_is : other ≡ value
  pub rest_is : behind ≡ rest

pub quoted_same : (quote : ℕ) (units value rest other behind : List ℕ) → IsQuoted quote units value rest → IsQuoted quote units other behind → IsSame value rest other behind
quoted_same quote _ _ _ other behind (quoted_closes u rest e) q =
    let c = quoted_close quote (u ∷ rest) other behind q u rest refl e in
    record { value_is = c.value_is; rest_is = c.rest_is }
quoted_same quote _ _ _ other behind (quoted_more units here mid later rest apart c more) q =
    let n = quoted_next quote units other behind (here, mid) q apart (character_only units here mid c) in
    let s = quoted_same quote mid later rest n.0 behind more n.2 in
    record { value_is = n.1 ∙ ap (λ w. here ++ w) s.value_is; rest_is = s.rest_is }

-- ---- the loop that looks for the closing quote

-- the text closes at the same places, seen from the start and from what is left
pub record Goes (quote : ℕ) (units left : List ℕ) : Type 0 where
  pub forth : (rest : List ℕ) → HasQuoted quote left rest → HasQuoted quote units rest
  pub back : (rest : List ℕ) → HasQuoted quote units rest → HasQuoted quote left rest

pub goes_start : (quote : ℕ) (units : List ℕ) → Goes quote units units
goes_start quote units = record { forth = λ rest h. h; back = λ rest h. h }

inside_parts : (quote : ℕ) (left : List ℕ) (r : Read) (x : Bool) → starts (λ v. v == quote) left ≡ x → cond x None (character_at left) ≡ Some r → (starts (λ v. v == quote) left ≡ false) × (character_at left ≡ Some r)
inside_parts quote left r true a e = absurd cc
inside_parts quote left r false a e = (a, e)

-- a character inside is one, and no closing quote
inside_is : (quote : ℕ) (left : List ℕ) (r : Read) → inside_at quote left ≡ Some r → (starts (λ v. v == quote) left ≡ false) × (character_at left ≡ Some r)
unfolding inside_at
inside_is quote left r e = inside_parts quote left r (starts (λ v. v == quote) left) refl e

inside_read : (quote : ℕ) (left : List ℕ) (r : Read) → starts (λ v. v == quote) left ≡ false → character_at left ≡ Some r → inside_at quote left ≡ Some r
unfolding inside_at
inside_read quote left r a e = rw a e

pub inside_shorter : (quote : ℕ) (left : List ℕ) (r : Read) → inside_at quote left ≡ Some r → length r.1 < length left
inside_shorter quote left r e = character_shorter left r (inside_is quote left r e).1

pub goes_more : (quote : ℕ) (units left : List ℕ) (r : Read) → Goes quote units left → inside_at quote left ≡ Some r → Goes quote units r.1
goes_more quote units left r g e =
    let parts = inside_is quote left r e in
    record {
      forth = λ rest h. g.forth rest (r.0 ++ h.0, quoted_more left r.0 r.1 h.0 rest parts.0 (character_of left r parts.1) h.1);
      back = λ rest h. let f = g.back rest h in let n = quoted_next quote left f.0 rest r f.1 parts.0 parts.1 in (n.0, n.2);
    }

close_by : (quote u : ℕ) (us rest : List ℕ) (x : Bool) → (u == quote) ≡ x → cond x (Some us) None ≡ Some rest → HasQuoted quote (u ∷ us) rest
close_by quote u us rest true a e = let same : us ≡ rest = cc in subst (λ (q : List ℕ). HasQuoted quote (u ∷ us) q) same ([], quoted_closes u us a)
close_by quote u us rest false a e = absurd cc

close_some : (quote : ℕ) (left rest : List ℕ) → close_at quote left ≡ Some rest → HasQuoted quote left rest
close_some quote [] rest e = absurd cc
close_some quote (u ∷ us) rest e = close_by quote u us rest (u == quote) refl e

close_read : (quote : ℕ) (left : List ℕ) → close_at quote left ≡ None → starts (λ v. v == quote) left ≡ false
close_read quote [] e = refl
close_read quote (u ∷ us) e = by (u == quote) e
  where
    by : (x : Bool) → cond x (Some us) None ≡ None → x ≡ false
    by true f = absurd cc
    by false f = refl

close_none : (quote : ℕ) (left : List ℕ) → inside_at quote left ≡ None → close_at quote left ≡ None → (value rest : List ℕ) → IsQuoted quote left value rest → ⊥
close_none quote left inside e value rest q =
    let apart = close_read quote left e in
    let s = quoted_step quote left value rest q apart in
    let some = inside_read quote left (s.here, s.mid) apart s.read in
    cc

-- what stands where no character goes on
pub goes_end : (quote : ℕ) (units left : List ℕ) (r : Option (List ℕ)) → Goes quote units left → inside_at quote left ≡ None → close_at quote left ≡ r → ClosesAt quote units r
goes_end quote units left (Some rest) g inside e = g.forth rest (close_some quote left rest e)
goes_end quote units left None g inside e = λ rest h. let f = g.back rest h in close_none quote left inside e f.0 rest f.1

-- ---- the loop that gathers the value

pub record Gathers (quote : ℕ) (units out left : List ℕ) : Type 0 where
  pub splits : (value rest : List ℕ) → IsQuoted quote units value rest → (later : List ℕ) × (value ≡ out ++ later) × IsQuoted quote left later rest

pub gathers_start : (quote : ℕ) (units : List ℕ) → Gathers quote units [] units
gathers_start quote units = record { splits = λ value rest q. (value, refl, q) }

pub gathers_more : (quote : ℕ) (units out left : List ℕ) (r : Read) → Gathers quote units out left → inside_at quote left ≡ Some r → Gathers quote units (out ++ r.0) r.1
gathers_more quote units out left r g e =
    let parts = inside_is quote left r e in
    record {
      splits = λ value rest q.
          let f = g.splits value rest q in
          let n = quoted_next quote left f.0 rest r f.2 parts.0 parts.1 in
          (n.0, f.1 ∙ ap (λ w. out ++ w) n.1 ∙ sym (append_assoc out r.0 n.0), n.2);
    }

last_value : (quote : ℕ) (left value rest : List ℕ) → inside_at quote left ≡ None → IsQuoted quote left value rest → value ≡ []
last_value quote _ _ _ inside (quoted_closes u rest e) = refl
last_value quote _ _ _ inside (quoted_more units here mid later rest apart c more) = absurd (let some = inside_read quote units (here, mid) apart (character_only units here mid c) in cc)

pub gathers_end : (quote : ℕ) (units out left : List ℕ) → Gathers quote units out left → inside_at quote left ≡ None → (value rest : List ℕ) → IsQuoted quote units value rest → out ≡ value
gathers_end quote units out left g inside value rest q =
    let f = g.splits value rest q in
    sym (f.1 ∙ ap (λ w. out ++ w) (last_value quote left f.0 rest inside f.2) ∙ append-nil out)
