-- Bodies of patterns, unit by unit, up to the closing slash.
use Rattle.std.proofs.Common.{◌≡◌, ℕ, ◌<◌, Bool, true, false, cond, List, [], ◌∷◌, length, Option, Some, None, refl, sym, ap, subst, ◌∙◌, arith}
use Rattle.std.specs.Prelude.{◌||◌, ◌&&◌, ◌==◌, not}
use Rattle.std.proofs.lemmas.Bool.{eqb-true, and_parts}
use Rattle.js_units.specs.Characters.{is_line_end}
use Rattle.js_lexer.specs.Patterns.{is_body_unit, class_behind, IsBody, body_closes, body_unit, body_escape}
use Rattle.js_lexer.specs.Bodies.{taken_along, body_at, slash_at, BodyEndsAt}
use Rattle.js_lexer.proofs.Gaps.{IsPast, past_one, past_more, past_behind}

-- what is read: whether the rest is in a class, and the rest
Step : Type 0
Step = Bool × List ℕ

-- a closing slash
abbrev pub closes : Bool → List ℕ → Bool
closes in_class [] = false
closes in_class (u ∷ us) = u == 47 && not in_class

-- ---- what is read is a body

taken_by : (c : Bool) (u : ℕ) (us : List ℕ) (r : Bool × List ℕ) (x : Bool) → is_line_end u ≡ x → cond x None (Some (c, us)) ≡ Some r → (rest : List ℕ) → IsBody r.0 r.1 rest → IsBody c (92 ∷ u ∷ us) rest
taken_by c u us r true a e rest b = absurd cc
taken_by c u us r false a e rest b = let same : r ≡ (c, us) = cc in body_escape c u us rest a (subst (λ (q : Bool × List ℕ). IsBody q.0 q.1 rest) same b)

taken_of : (c : Bool) (us : List ℕ) (r : Bool × List ℕ) → taken_along c us ≡ Some r → (rest : List ℕ) → IsBody r.0 r.1 rest → IsBody c (92 ∷ us) rest
taken_of c [] r e rest b = absurd cc
taken_of c (u ∷ us) r e rest b = taken_by c u us r (is_line_end u) refl e rest b

body_by : (c : Bool) (u : ℕ) (us : List ℕ) (r : Bool × List ℕ) (x y : Bool) → (u == 92) ≡ x → is_body_unit c u ≡ y → cond x (taken_along c us) (cond y (Some (class_behind c u, us)) None) ≡ Some r → (rest : List ℕ) → IsBody r.0 r.1 rest → IsBody c (u ∷ us) rest
body_by c u us r true y a b e rest h = subst (λ (q : ℕ). IsBody c (q ∷ us) rest) (sym (eqb-true u 92 a)) (taken_of c us r e rest h)
body_by c u us r false true a b e rest h = let same : r ≡ (class_behind c u, us) = cc in body_unit c u us rest b (subst (λ (q : Bool × List ℕ). IsBody q.0 q.1 rest) same h)
body_by c u us r false false a b e rest h = absurd cc

body_of : (c : Bool) (units : List ℕ) (r : Bool × List ℕ) → body_at c units ≡ Some r → (rest : List ℕ) → IsBody r.0 r.1 rest → IsBody c units rest
unfolding body_at
body_of c [] r e rest h = absurd cc
body_of c (u ∷ us) r e rest h = body_by c u us r (u == 92) (is_body_unit c u) refl refl e rest h

-- ---- a body is read

unit_parts : (x y z : Bool) → not (x || y || z) ≡ true → (y ≡ false) × (z ≡ false)
unit_parts false false false e = (refl, refl)
unit_parts true y z e = absurd cc
unit_parts false true z e = absurd cc
unit_parts false false true e = absurd cc

-- a unit of a body is no backslash and closes nothing
body_unit_apart : (c : Bool) (u : ℕ) → is_body_unit c u ≡ true → ((u == 92) ≡ false) × ((u == 47 && not c) ≡ false)
unfolding is_body_unit
body_unit_apart c u e = unit_parts (is_line_end u) (u == 92) (u == 47 && not c) e

unit_read : (c : Bool) (u : ℕ) (us : List ℕ) → is_body_unit c u ≡ true → body_at c (u ∷ us) ≡ Some (class_behind c u, us)
unfolding body_at
unit_read c u us e = rw ((body_unit_apart c u e).0, e) refl

escape_read : (c : Bool) (u : ℕ) (us : List ℕ) → is_line_end u ≡ false → body_at c (92 ∷ u ∷ us) ≡ Some (c, us)
unfolding body_at
escape_read c u us e = rw e refl

record IsStep (c : Bool) (units rest : List ℕ) : Type 0 where
  next : Bool
  mid : List ℕ
  read : body_at c units ≡ Some (next, mid)
  more : IsBody next mid rest

body_step : (c : Bool) (units rest : List ℕ) → IsBody c units rest → closes c units ≡ false → IsStep c units rest
body_step _ _ _ (body_closes rest) e = absurd cc
body_step c _ _ (body_unit _ u units rest h more) e = record { next = class_behind c u; mid = units; read = unit_read c u units h; more = more }
body_step c _ _ (body_escape _ u units rest h more) e = record { next = c; mid = units; read = escape_read c u units h; more = more }

body_close : (c : Bool) (units rest : List ℕ) → IsBody c units rest → (u : ℕ) (us : List ℕ) → units ≡ u ∷ us → (u == 47 && not c) ≡ true → rest ≡ us
body_close _ _ _ (body_closes rest) u us same e = cc
body_close c _ _ (body_unit _ v units rest h more) u us same e = absurd (let apart = (body_unit_apart c v h).1 in let is : v ≡ u = cc in cc)
body_close c _ _ (body_escape _ v units rest h more) u us same e = absurd (let is : 92 ≡ u = cc in let one = (and_parts (u == 47) (not c) e).0 in let other = eqb-true u 47 one in omega arith)

same_step : (x y : Bool × List ℕ) → Some x ≡ Some y → (x.0 ≡ y.0) × (x.1 ≡ y.1)
same_step x y e = (cc, cc)

body_next : (c : Bool) (units rest : List ℕ) (r : Bool × List ℕ) → IsBody c units rest → closes c units ≡ false → body_at c units ≡ Some r → IsBody r.0 r.1 rest
body_next c units rest r b e read =
    let s = body_step c units rest b e in
    let same = same_step (s.next, s.mid) r (sym s.read ∙ read) in
    subst (λ (q : Bool). IsBody q r.1 rest) same.0 (subst (λ (q : List ℕ). IsBody s.next q rest) same.1 s.more)

-- one rest at most
pub body_same : (c : Bool) (units rest behind : List ℕ) → IsBody c units rest → IsBody c units behind → behind ≡ rest
body_same _ _ _ behind (body_closes rest) b = body_close false (47 ∷ rest) behind b 47 rest refl refl
body_same c _ _ behind (body_unit _ u units rest h more) b = body_same (class_behind c u) units rest behind more (body_next c (u ∷ units) behind (class_behind c u, units) b (body_unit_apart c u h).1 (unit_read c u units h))
body_same c _ _ behind (body_escape _ u units rest h more) b = body_same c units rest behind more (body_next c (92 ∷ u ∷ units) behind (c, units) b refl (escape_read c u units h))

pub body_past : (c : Bool) (units rest : List ℕ) → IsBody c units rest → IsPast units rest
body_past _ _ _ (body_closes rest) = past_one 47 rest
body_past c _ _ (body_unit _ u units rest h more) = past_more u units rest (past_behind units rest (body_past (class_behind c u) units rest more))
body_past c _ _ (body_escape _ u units rest h more) = past_more 92 (u ∷ units) rest (past_behind (u ∷ units) rest (past_more u units rest (past_behind units rest (body_past c units rest more))))

taken_shorter : (c : Bool) (us : List ℕ) (r : Bool × List ℕ) → taken_along c us ≡ Some r → length r.1 < length us
taken_shorter c [] r e = absurd cc
taken_shorter c (u ∷ us) r e = by (is_line_end u) e
  where
    by : (x : Bool) → cond x None (Some (c, us)) ≡ Some r → length r.1 < length (u ∷ us)
    by true f = absurd cc
    by false f = let same : r ≡ (c, us) = cc in omega (arith, ap (λ (q : Bool × List ℕ). length q.1) same)

pub step_shorter : (c : Bool) (units : List ℕ) (r : Bool × List ℕ) → body_at c units ≡ Some r → length r.1 < length units
unfolding body_at
step_shorter c [] r e = absurd cc
step_shorter c (u ∷ us) r e = by (u == 92) (is_body_unit c u) e
  where
    by : (x y : Bool) → cond x (taken_along c us) (cond y (Some (class_behind c u, us)) None) ≡ Some r → length r.1 < length (u ∷ us)
    by true y f = omega (arith, taken_shorter c us r f)
    by false true f = let same : r ≡ (class_behind c u, us) = cc in omega (arith, ap (λ (q : Bool × List ℕ). length q.1) same)
    by false false f = absurd cc

-- ---- the loop that looks for the closing slash

pub record Goes (units : List ℕ) (in_class : Bool) (left : List ℕ) : Type 0 where
  pub forth : (rest : List ℕ) → IsBody in_class left rest → IsBody false units rest
  pub back : (rest : List ℕ) → IsBody false units rest → IsBody in_class left rest

pub goes_start : (units : List ℕ) → Goes units false units
goes_start units = record { forth = λ rest h. h; back = λ rest h. h }

-- where a step is read, no slash closes
step_apart : (c : Bool) (left : List ℕ) (r : Bool × List ℕ) → body_at c left ≡ Some r → closes c left ≡ false
unfolding body_at
step_apart c [] r e = refl
step_apart c (u ∷ us) r e = by (u == 92) (is_body_unit c u) refl refl e
  where
    by : (x y : Bool) → (u == 92) ≡ x → is_body_unit c u ≡ y → cond x (taken_along c us) (cond y (Some (class_behind c u, us)) None) ≡ Some r → (u == 47 && not c) ≡ false
    by true y a b f = rw (eqb-true u 92 a) refl
    by false true a b f = (body_unit_apart c u b).1
    by false false a b f = absurd cc

pub goes_more : (units : List ℕ) (c : Bool) (left : List ℕ) (r : Bool × List ℕ) → Goes units c left → body_at c left ≡ Some r → Goes units r.0 r.1
goes_more units c left r g e = record {
  forth = λ rest h. g.forth rest (body_of c left r e rest h);
  back = λ rest h. body_next c left rest r (g.back rest h) (step_apart c left r e) e;
}

slash_by : (c : Bool) (u : ℕ) (us rest : List ℕ) (x : Bool) → (u == 47 && not c) ≡ x → cond x (Some us) None ≡ Some rest → IsBody c (u ∷ us) rest
slash_by true u us rest true a e = absurd (let none = (and_parts (u == 47) false a).1 in cc)
slash_by false u us rest true a e =
    let same : us ≡ rest = cc in
    let is = eqb-true u 47 (and_parts (u == 47) true a).0 in
    subst (λ (q : ℕ). IsBody false (q ∷ us) rest) (sym is) (subst (λ (q : List ℕ). IsBody false (47 ∷ us) q) same (body_closes us))
slash_by c u us rest false a e = absurd cc

slash_some : (c : Bool) (left rest : List ℕ) → slash_at c left ≡ Some rest → IsBody c left rest
slash_some c [] rest e = absurd cc
slash_some c (u ∷ us) rest e = slash_by c u us rest (u == 47 && not c) refl e

slash_read : (c : Bool) (left : List ℕ) → slash_at c left ≡ None → closes c left ≡ false
slash_read c [] e = refl
slash_read c (u ∷ us) e = by (u == 47 && not c) e
  where
    by : (x : Bool) → cond x (Some us) None ≡ None → x ≡ false
    by true f = absurd cc
    by false f = refl

slash_none : (c : Bool) (left : List ℕ) → body_at c left ≡ None → slash_at c left ≡ None → (rest : List ℕ) → IsBody c left rest → ⊥
slash_none c left none e rest b = let s = body_step c left rest b (slash_read c left e) in let some = s.read in cc

-- what stands where no unit goes on
pub goes_end : (units : List ℕ) (c : Bool) (left : List ℕ) (r : Option (List ℕ)) → Goes units c left → body_at c left ≡ None → slash_at c left ≡ r → BodyEndsAt false units r
goes_end units c left (Some rest) g none e = g.forth rest (slash_some c left rest e)
goes_end units c left None g none e = λ rest h. slash_none c left none e rest (g.back rest h)
