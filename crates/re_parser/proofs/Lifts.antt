-- What is said of units in front of which a reader stands is said of the whole body.
use Rattle.std.proofs.Common.{◌≡◌, ℕ, List, [], ◌∷◌, ◌++◌, length, None, refl, sym, ap, subst, ◌∙◌, append_assoc, arith, inl, inr}
use Rattle.std.specs.Prelude.{◌-◌, Err}
use Rattle.std.proofs.lemmas.List.{length-append}
use Rattle.re_ast.specs.declared.patterns.Node.{Node}
use Rattle.re_parser.specs.Agreement.{Agree}
use Rattle.re_parser.specs.Grammar.{HasShape, alt_of}
use Rattle.re_parser.specs.Places.{Viable, Barren, IsSyntax, IsBadEscape, IsTenthGroup, IsFirst, IsMarkDue, IsWithinEscape, EndsIn, NoNull, IsUnbound, IsAt, IsRefusedAt}
use Rattle.re_parser.specs.Answers.{IsRefusal}
use Rattle.re_parser.specs.Reading.{Left, Same, GoesOn, StopsAt, IsLeft, IsStep, FaultOf, start}
use Rattle.re_parser.specs.declared.reader.Reader.{Reader}
use Rattle.re_parser.specs.declared.refusal.Fault.{Fault}
use Rattle.re_parser.specs.declared.refusal.Fault.TheVariants as fault
use Rattle.re_parser.specs.declared.refusal.PatternRefusal.{PatternRefusal}
use Rattle.re_parser.specs.declared.refusal.PatternRefusal.TheVariants as refusal
use Rattle.re_parser.proofs.Agreeing.{agree_behind, agree_same}
use Rattle.re_parser.proofs.Goings.{refused_here}
use Rattle.re_parser.proofs.Wholes.{shape_left, left_shape}

-- ---- behind other units

pub lift_escape : (pre front rest : List ℕ) → IsWithinEscape front rest → IsWithinEscape (pre ++ front) rest
lift_escape pre front rest w = record {
  before = pre ++ w.before;
  part = w.part;
  is = ap (λ (x : List ℕ). pre ++ x) w.is ∙ sym (append_assoc pre w.before (92 ∷ w.part));
  member = w.member;
  behind = w.behind;
  listed = w.listed;
  later = w.later;
}

ends_behind : (unit : ℕ) (pre front : List ℕ) → EndsIn unit front → EndsIn unit (pre ++ front)
ends_behind unit pre front e = (pre ++ e.0, ap (λ (x : List ℕ). pre ++ x) e.1 ∙ sym (append_assoc pre e.0 (unit ∷ [])))

pub lift_null : (pre front rest : List ℕ) → NoNull front rest → NoNull (pre ++ front) rest
lift_null pre front rest (inl n) = inl n
lift_null pre front rest (inr e) = inr (ends_behind 45 pre front e)

behind_it : (P : List ℕ → Type 0) (pre front more : List ℕ) → P (pre ++ (front ++ more)) → P ((pre ++ front) ++ more)
behind_it P pre front more h = subst P (sym (append_assoc pre front more)) h

pub record Lifts (G S D H T E : List ℕ → Type 0) (pre : List ℕ) : Type 0 where
  pub goes : (x : List ℕ) → G x → H (pre ++ x)
  pub stops : (x : List ℕ) → S x → T (pre ++ x)
  pub due : (x : List ℕ) → D x → E (pre ++ x)

lift_syntax : (G S D H T E : List ℕ → Type 0) (pre front rest : List ℕ) → Lifts G S D H T E pre → IsSyntax G S D front rest → IsSyntax H T E (pre ++ front) rest
lift_syntax G S D H T E pre front rest l s = record {
  before = l.goes front s.before;
  there = λ u behind d. behind_it T pre front (u ∷ []) (l.stops (front ++ u ∷ []) (s.there u behind d));
  reason = elim s.reason [
    | inl f ↦ inl (f.0, f.1, behind_it H pre front (f.0 ∷ []) (l.goes (front ++ f.0 ∷ []) f.2), lift_null pre front rest f.3)
    | inr (inl d) ↦ inr (inl (l.due front d))
    | inr (inr w) ↦ inr (inr (lift_escape pre front rest w))
  ];
}

lift_bad : (G S D H T E : List ℕ → Type 0) (pre front behind : List ℕ) → Lifts G S D H T E pre → IsBadEscape G S front behind → IsBadEscape H T (pre ++ front) behind
lift_bad G S D H T E pre front behind l b = record {
  begins = behind_it H pre front (92 ∷ []) (l.goes (front ++ 92 ∷ []) b.begins);
  escapes = λ units n. behind_it T pre front (92 ∷ units) (l.stops (front ++ 92 ∷ units) (b.escapes units n));
  unlisted = elim b.unlisted [
    | inl e ↦ inl e
    | inr e ↦ inr (e.0, λ u more d. behind_it T pre front (92 ∷ u ∷ []) (l.stops (front ++ 92 ∷ u ∷ []) (e.1 u more d)))
  ];
}

lift_tenth : (G S D H T E : List ℕ → Type 0) (pre front behind : List ℕ) → Lifts G S D H T E pre → IsTenthGroup G S front behind → IsTenthGroup H T (pre ++ front) behind
lift_tenth G S D H T E pre front behind l b = record {
  begins = behind_it H pre front (40 ∷ []) (l.goes (front ++ 40 ∷ []) b.begins);
  only_marked = λ u h. behind_it T pre front (40 ∷ u ∷ []) (l.stops (front ++ 40 ∷ u ∷ []) (b.only_marked u h));
  unmarked = b.unmarked;
}

lift_left : (P Q : List ℕ → List ℕ → Type 0) (pre units body : List ℕ) (left : ℕ) → body ≡ pre ++ units → ((front rest : List ℕ) → P front rest → Q (pre ++ front) rest) → IsLeft units left P → IsLeft body left Q
lift_left P Q pre units body left e f h = record {
  front = pre ++ h.front;
  rest = h.rest;
  parts = e ∙ ap (λ (x : List ℕ). pre ++ x) h.parts ∙ sym (append_assoc pre h.front h.rest);
  count = h.count;
  is = f h.front h.rest h.is;
}

pub lift_fault : (G S D H T E : List ℕ → Type 0) (pre units body : List ℕ) → body ≡ pre ++ units → Lifts G S D H T E pre → (e : Fault) → FaultOf G S D units e → FaultOf H T E body e
lift_fault G S D H T E pre units body d l fault.NoMemory h = tt
lift_fault G S D H T E pre units body d l (fault.Syntax left) h = lift_left (IsSyntax G S D) (IsSyntax H T E) pre units body left d (λ front rest s. lift_syntax G S D H T E pre front rest l s) h
lift_fault G S D H T E pre units body d l (fault.BadEscape left) h = lift_left (IsFirst 92 (IsBadEscape G S)) (IsFirst 92 (IsBadEscape H T)) pre units body left d (λ front rest s. record { behind = s.behind; starts = s.starts; is = lift_bad G S D H T E pre front s.behind l s.is }) h
lift_fault G S D H T E pre units body d l (fault.TooManyGroups left) h = lift_left (IsFirst 40 (IsTenthGroup G S)) (IsFirst 40 (IsTenthGroup H T)) pre units body left d (λ front rest s. record { behind = s.behind; starts = s.starts; is = lift_tenth G S D H T E pre front s.behind l s.is }) h

-- ---- from a reader to the body

pub left_has : (body : List ℕ) (groups : ℕ) (n : Node) → Left (None, groups, n) start body → HasShape body
left_has body groups n l = let s = left_shape body None groups n l in record { groups = groups; nodes = s.nodes; disjunction = s.disjunction }

viable_from : (body : List ℕ) (r : Reader) (units : List ℕ) (h : IsStep start body (r, units)) (x : List ℕ) → GoesOn r units x → Viable (h.part ++ x)
viable_from body r units h x g = (
  g.more,
  behind_it HasShape h.part x g.more (left_has (h.part ++ (x ++ g.more)) g.groups g.node ((h.leads (x ++ g.more) g.agrees (None, g.groups, g.node)).1 g.leads)),
)

barren_from : (body : List ℕ) (r : Reader) (units : List ℕ) (h : IsStep start body (r, units)) (x : List ℕ) → StopsAt r units x → Barren (h.part ++ x)
barren_from body r units h x s v =
    let there = s v.0 in
    let shape : HasShape (h.part ++ (x ++ v.0)) = subst HasShape (append_assoc h.part x v.0) v.1 in
    there.1 (None, shape.groups, alt_of shape.nodes) ((h.leads (x ++ v.0) there.0 (None, shape.groups, alt_of shape.nodes)).0 (shape_left (h.part ++ (x ++ v.0)) None shape.nodes shape.groups shape.disjunction))

pub body_fault : (body : List ℕ) (r : Reader) (units : List ℕ) → IsStep start body (r, units) → (e : Fault) → FaultOf (GoesOn r units) (StopsAt r units) (IsMarkDue (StopsAt r units)) units e → FaultOf Viable Barren (IsMarkDue Barren) body e
body_fault body r units h e f =
    lift_fault (GoesOn r units) (StopsAt r units) (IsMarkDue (StopsAt r units)) Viable Barren (IsMarkDue Barren) h.part units body h.parts
    (record {
      goes = viable_from body r units h;
      stops = barren_from body r units h;
      due = λ x d. (ends_behind 63 h.part x d.0, λ u n. behind_it Barren h.part x (u ∷ []) (barren_from body r units h (x ++ u ∷ []) (d.1 u n)));
    })
    e f

-- ---- steps one after another

pub step_start : (units : List ℕ) → IsStep start units (start, units)
step_start units = record { part = []; parts = refl; leads = λ more a w. (λ l. l, λ l. l) }

pub step_both : (r q s : Reader) (a b c : List ℕ) → IsStep r a (q, b) → IsStep q b (s, c) → IsStep r a (s, c)
step_both r q s a b c f g = record {
  part = f.part ++ g.part;
  parts = f.parts ∙ ap (λ (x : List ℕ). f.part ++ x) g.parts ∙ sym (append_assoc f.part g.part c);
  leads = λ more h.
      let agrees : Agree b (g.part ++ more) = subst (λ (x : List ℕ). Agree x (g.part ++ more)) (sym g.parts) (agree_behind g.part c more h) in
      let one = f.leads (g.part ++ more) agrees in
      let two = g.leads more h in
      let both : Same r (f.part ++ (g.part ++ more)) s more = λ w. (λ l. (two w).0 ((one w).0 l), λ l. (one w).1 ((two w).1 l)) in
      subst (λ (x : List ℕ). Same r x s more) (sym (append_assoc f.part g.part more)) both;
}

pub step_same : (r q : Reader) (a b : List ℕ) → IsStep r a (q, b) → Same r a q b
step_same r q a b f = subst (λ (x : List ℕ). Same r x q b) (sym f.parts) (f.leads b (agree_same b))

-- ---- places

at_left : (body : List ℕ) (left at : ℕ) (P : List ℕ → List ℕ → Type 0) → at ≡ length body - left → IsLeft body left P → IsAt body at P
at_left body left at P e h = record {
  front = h.front;
  rest = h.rest;
  parts = h.parts;
  place = omega (arith, e, h.count, ap length h.parts, length-append h.front h.rest);
  is = h.is;
}

pub refused_at : (X : Type 0) (body : List ℕ) (e : Fault) (f : PatternRefusal) → IsRefusal (length body) e f → FaultOf Viable Barren (IsMarkDue Barren) body e → IsRefusedAt {X = X} body (Err f)
refused_at X body fault.NoMemory refusal.NoMemory h l = tt
refused_at X body (fault.Syntax left) (refusal.Syntax at) h l = at_left body left at (IsSyntax Viable Barren (IsMarkDue Barren)) h l
refused_at X body (fault.BadEscape left) (refusal.BadEscape at) h l = at_left body left at (IsFirst 92 (IsBadEscape Viable Barren)) h l
refused_at X body (fault.TooManyGroups left) (refusal.TooManyGroups at) h l = at_left body left at (IsFirst 40 (IsTenthGroup Viable Barren)) h l
refused_at X body _ _ h l = absurd h

-- a reader at the end of the units
end_fault : (body : List ℕ) (r : Reader) → IsStep start body (r, []) → FaultOf Viable Barren (IsMarkDue Barren) body (fault.Syntax 0)
end_fault body r h = body_fault body r [] h (fault.Syntax 0) (record { front = []; rest = []; parts = refl; count = refl; is = refused_here r [] refl (λ u behind d. absurd cc) })

pub ended_syntax : (X : Type 0) (body : List ℕ) (r : Reader) (at : ℕ) → IsStep start body (r, []) → at ≡ length body → IsRefusedAt {X = X} body (Err (refusal.Syntax at))
ended_syntax X body r at h a = at_left body 0 at (IsSyntax Viable Barren (IsMarkDue Barren)) (omega (arith, a)) (end_fault body r h)

pub refused_again : (X Y : Type 0) (a b : List ℕ) (e : PatternRefusal) → a ≡ b → IsRefusedAt {X = X} a (Err e) → IsRefusedAt {X = Y} b (Err e)
refused_again X Y a b (refusal.Syntax at) d h = subst (λ (x : List ℕ). IsAt x at (IsSyntax Viable Barren (IsMarkDue Barren))) d h
refused_again X Y a b (refusal.BadEscape at) d h = subst (λ (x : List ℕ). IsAt x at (IsFirst 92 (IsBadEscape Viable Barren))) d h
refused_again X Y a b (refusal.TooManyGroups at) d h = subst (λ (x : List ℕ). IsAt x at (IsFirst 40 (IsTenthGroup Viable Barren))) d h
refused_again X Y a b refusal.NoMemory d h = tt
refused_again X Y a b (refusal.Flags at) d h = tt
refused_again X Y a b (refusal.BackrefRange at) d h = subst (λ (x : List ℕ). IsAt x at (IsUnbound x)) d h
