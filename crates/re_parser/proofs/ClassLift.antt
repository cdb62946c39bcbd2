-- What is said of the inside of a class is said of the reader in front of it.
use Rattle.std.proofs.Common.{◌≡◌, ℕ, ◌+◌, Bool, true, false, cond, List, [], ◌∷◌, ◌++◌, Option, Some, None, refl, sym, ap, subst, ◌∙◌, append_assoc, arith, inl, inr}
use Rattle.std.specs.Prelude.{◌==◌}
use Rattle.std.proofs.lemmas.Bool.{eqb-true, ne_eqb}
use Rattle.re_ast.specs.declared.patterns.Node.{Node}
use Rattle.re_parser.specs.Agreement.{Agree, is_caret}
use Rattle.js_units.specs.Characters.{is_digit}
use Rattle.re_parser.specs.Escapes.{starts}
use Rattle.re_parser.specs.Pieces.{class_at, piece_at}
use Rattle.re_parser.specs.Grammar.{Begins}
use Rattle.re_parser.specs.Places.{IsSyntax, IsBadEscape, IsTenthGroup, IsFirst, IsMarkDue}
use Rattle.re_parser.specs.Reading.{Left, Whole, Stuck, GoesOn, StopsAt, IsLeft, FaultOf, MembersGo, MembersStop, NoMark, with_term}
use Rattle.re_parser.specs.declared.kinds.Piece.{Piece}
use Rattle.re_parser.specs.declared.kinds.Piece.TheVariants as piece
use Rattle.re_parser.specs.declared.reader.Reader.{Reader}
use Rattle.re_parser.specs.declared.refusal.Fault.{Fault}
use Rattle.re_parser.specs.declared.refusal.Fault.TheVariants as fault
use Rattle.re_parser.proofs.Members.{parts_same}
use Rattle.re_parser.proofs.Agreeing.{agree_first}
use Rattle.re_parser.proofs.Goings.{closers, closers_none, closed_node, reader_closes, quantified_rest}
use Rattle.re_parser.proofs.Steps.{class_same, class_stuck, class_node}
use Rattle.re_parser.proofs.Firsts.{piece_first}
use Rattle.re_parser.proofs.Lifts.{lift_escape, lift_null}

-- a class begins with `[` or `[^`
record Opening (units : List ℕ) (negated : Bool) (inside : List ℕ) : Type 0 where
  pre : List ℕ
  is : units ≡ 91 ∷ pre ++ inside
  again : (more : List ℕ) → (starts is_caret inside ≡ false → starts is_caret more ≡ false) → Begins (91 ∷ pre ++ more) (piece.Class negated) more

class_begins : (us : List ℕ) (negated : Bool) (inside : List ℕ) → class_at us ≡ Some (piece.Class negated, inside) → Opening (91 ∷ us) negated inside
unfolding class_at piece_at
class_begins [] negated inside e =
    let p = parts_same Piece (List ℕ) (piece.Class false, []) (piece.Class negated, inside) e in
    plain [] refl p.0 p.1
  where
    plain : (us : List ℕ) → starts is_caret us ≡ false → piece.Class false ≡ piece.Class negated → us ≡ inside → Opening (91 ∷ us) negated inside
    plain us s n d = record { pre = []; is = ap (λ (x : List ℕ). 91 ∷ x) d; again = λ more h. uncaret more (h (subst (λ (x : List ℕ). starts is_caret x ≡ false) d s)) ∙ ap (λ (x : Piece). Some (x, more)) n }
      where
        uncaret : (more : List ℕ) → starts is_caret more ≡ false → class_at more ≡ Some (piece.Class false, more)
        uncaret [] k = refl
        uncaret (u ∷ more) k = rw k refl
class_begins (u ∷ us) negated inside e = by (u == 94) refl e
  where
    uncaret : (more : List ℕ) → starts is_caret more ≡ false → class_at more ≡ Some (piece.Class false, more)
    uncaret [] k = refl
    uncaret (v ∷ more) k = rw k refl

    by : (c : Bool) → (u == 94) ≡ c → cond {A = Option (Piece × List ℕ)} c (Some (piece.Class true, us)) (Some (piece.Class false, u ∷ us)) ≡ Some (piece.Class negated, inside) → Opening (91 ∷ u ∷ us) negated inside
    by true d e =
        let p = parts_same Piece (List ℕ) (piece.Class true, us) (piece.Class negated, inside) e in
        record { pre = 94 ∷ []; is = ap (λ (x : ℕ). 91 ∷ x ∷ us) (eqb-true u 94 d) ∙ ap (λ (x : List ℕ). 91 ∷ 94 ∷ x) p.1; again = λ more h. ap (λ (x : Piece). Some (x, more)) p.0 }
    by false d e =
        let p = parts_same Piece (List ℕ) (piece.Class false, u ∷ us) (piece.Class negated, inside) e in
        record { pre = []; is = ap (λ (x : List ℕ). 91 ∷ x) p.1; again = λ more h. uncaret more (h (subst (λ (x : List ℕ). starts is_caret x ≡ false) p.1 d)) ∙ ap (λ (x : Piece). Some (x, more)) p.0 }

opening : (units : List ℕ) (negated : Bool) (inside : List ℕ) → Begins units (piece.Class negated) inside → Opening units negated inside
unfolding piece_at
opening [] negated inside b = absurd cc
opening (u ∷ us) negated inside b =
    let is = eqb-true u 91 (piece_first u us (piece.Class negated) inside b) in
    let there : piece_at (91 ∷ us) ≡ Some (piece.Class negated, inside) = ap (λ (x : ℕ). piece_at (x ∷ us)) (sym is) ∙ b in
    subst (λ (x : ℕ). Opening (x ∷ us) negated inside) (sym is) (class_begins us negated inside there)

bracket_agree : (us more : List ℕ) → Agree (91 ∷ us) (91 ∷ more)
unfolding is_digit
bracket_agree us more = agree_first 91 us more refl refl

-- which units may stand in front of those inside
abbrev Fits : List ℕ → List ℕ → Type 0
Fits inside x = starts is_caret inside ≡ false → starts is_caret x ≡ false

record Lift (r : Reader) (units : List ℕ) (pre inside : List ℕ) : Type 0 where
  goes : (x : List ℕ) → Fits inside x → MembersGo x → GoesOn r units (91 ∷ pre ++ x)
  stops : (x : List ℕ) → ((more : List ℕ) → Fits inside (x ++ more)) → MembersStop x → StopsAt r units (91 ∷ pre ++ x)

lift_of : (r : Reader) (units inside : List ℕ) (negated : Bool) (o : Opening units negated inside) → Lift r units o.pre inside
lift_of r units inside negated o = record {
  goes = λ x f g.
      let more : List ℕ = g.more ++ closers r.frames in
      let there = o.again (x ++ more) (λ k. g.caret (f k) (closers r.frames)) in
      let rest = quantified_rest (r.groups + 1) (class_node negated g.ranges) (r.groups + 1) (closers r.frames) (closers_none r.frames) in
      let w : Whole = (None, r.groups, closed_node (with_term r (class_node negated g.ranges, [])).0) in
      let leads : Left w r (91 ∷ o.pre ++ (x ++ more)) = (class_same r (91 ∷ o.pre ++ (x ++ more)) (x ++ more) negated g.ranges (closers r.frames) there (g.members (closers r.frames)) w).1 (subst (λ (y : Node × List ℕ). Left w (with_term r y).0 y.1) (sym rest) (reader_closes (with_term r (class_node negated g.ranges, [])).0)) in
      let assoc = append_assoc (91 ∷ o.pre) x more in
      record {
        more = more;
        agrees = subst (λ (y : List ℕ). Agree y ((91 ∷ o.pre ++ x) ++ more)) (sym o.is) (bracket_agree (o.pre ++ inside) ((o.pre ++ x) ++ more));
        groups = r.groups;
        node = closed_node (with_term r (class_node negated g.ranges, [])).0;
        leads = subst (λ (y : List ℕ). Left w r y) (sym assoc) leads;
      };
  stops = λ x f s more. (
    subst (λ (y : List ℕ). Agree y ((91 ∷ o.pre ++ x) ++ more)) (sym o.is) (bracket_agree (o.pre ++ inside) ((o.pre ++ x) ++ more)),
    subst (λ (y : List ℕ). Stuck r y) (sym (append_assoc (91 ∷ o.pre) x more)) (class_stuck r (91 ∷ o.pre ++ (x ++ more)) (x ++ more) negated (o.again (x ++ more) (f more)) (s more)),
  );
}

-- a part in front fits, and with any unit but `^` behind it, or the next one
fits_front : (inside front rest : List ℕ) → inside ≡ front ++ rest → Fits inside front
fits_front inside [] rest e k = refl
fits_front inside (u ∷ front) rest e k = subst (λ (x : List ℕ). starts is_caret x ≡ false) e k

fits_next : (inside front rest : List ℕ) (u : ℕ) (us : List ℕ) → inside ≡ front ++ rest → rest ≡ u ∷ us → (more : List ℕ) → Fits inside ((front ++ u ∷ []) ++ more)
fits_next inside [] rest u us e d more k = subst (λ (x : List ℕ). starts is_caret x ≡ false) (e ∙ d) k
fits_next inside (v ∷ front) rest u us e d more k = subst (λ (x : List ℕ). starts is_caret x ≡ false) e k

fits_other : (inside front rest : List ℕ) (u : ℕ) (us : List ℕ) → inside ≡ front ++ rest → (u == 94) ≡ false → Fits inside (front ++ u ∷ us)
fits_other inside [] rest u us e d k = d
fits_other inside (v ∷ front) rest u us e d k = subst (λ (x : List ℕ). starts is_caret x ≡ false) e k

fits_more : (inside front rest : List ℕ) (u : ℕ) (us : List ℕ) → inside ≡ front ++ rest → (u == 94) ≡ false → (more : List ℕ) → Fits inside ((front ++ u ∷ us) ++ more)
fits_more inside [] rest u us e d more k = d
fits_more inside (v ∷ front) rest u us e d more k = subst (λ (x : List ℕ). starts is_caret x ≡ false) e k

behind_it : (P : List ℕ → Type 0) (pre front more : List ℕ) → P (91 ∷ pre ++ (front ++ more)) → P ((91 ∷ pre ++ front) ++ more)
behind_it P pre front more h = subst P (sym (append_assoc (91 ∷ pre) front more)) h

syntax_on : (r : Reader) (units pre inside front rest : List ℕ) → Lift r units pre inside → inside ≡ front ++ rest → IsSyntax MembersGo MembersStop NoMark front rest → IsSyntax (GoesOn r units) (StopsAt r units) (IsMarkDue (StopsAt r units)) (91 ∷ pre ++ front) rest
syntax_on r units pre inside front rest l e s = record {
  before = l.goes front (fits_front inside front rest e) s.before;
  there = λ u behind d. behind_it (StopsAt r units) pre front (u ∷ []) (l.stops (front ++ u ∷ []) (fits_next inside front rest u behind e d) (s.there u behind d));
  reason = elim s.reason [
    | inl f ↦ inl (f.0, f.1, behind_it (GoesOn r units) pre front (f.0 ∷ []) (l.goes (front ++ f.0 ∷ []) (fits_other inside front rest f.0 [] e (ne_eqb f.0 94 (λ k. let h = f.1 in omega arith))) f.2), lift_null (91 ∷ pre) front rest f.3)
    | inr (inl d) ↦ absurd d
    | inr (inr w) ↦ inr (inr (lift_escape (91 ∷ pre) front rest w))
  ];
}

bad_on : (r : Reader) (units pre inside front rest behind : List ℕ) → Lift r units pre inside → inside ≡ front ++ rest → IsBadEscape MembersGo MembersStop front behind → IsBadEscape (GoesOn r units) (StopsAt r units) (91 ∷ pre ++ front) behind
bad_on r units pre inside front rest behind l e b = record {
  begins = behind_it (GoesOn r units) pre front (92 ∷ []) (l.goes (front ++ 92 ∷ []) (fits_other inside front rest 92 [] e refl) b.begins);
  escapes = λ us n. behind_it (StopsAt r units) pre front (92 ∷ us) (l.stops (front ++ 92 ∷ us) (fits_more inside front rest 92 us e refl) (b.escapes us n));
  unlisted = elim b.unlisted [
    | inl k ↦ inl k
    | inr k ↦ inr (k.0, λ u more d. behind_it (StopsAt r units) pre front (92 ∷ u ∷ []) (l.stops (front ++ 92 ∷ u ∷ []) (fits_more inside front rest 92 (u ∷ []) e refl) (k.1 u more d)))
  ];
}

tenth_on : (r : Reader) (units pre inside front rest behind : List ℕ) → Lift r units pre inside → inside ≡ front ++ rest → IsTenthGroup MembersGo MembersStop front behind → IsTenthGroup (GoesOn r units) (StopsAt r units) (91 ∷ pre ++ front) behind
tenth_on r units pre inside front rest behind l e b = record {
  begins = behind_it (GoesOn r units) pre front (40 ∷ []) (l.goes (front ++ 40 ∷ []) (fits_other inside front rest 40 [] e refl) b.begins);
  only_marked = λ u h. behind_it (StopsAt r units) pre front (40 ∷ u ∷ []) (l.stops (front ++ 40 ∷ u ∷ []) (fits_more inside front rest 40 (u ∷ []) e refl) (b.only_marked u h));
  unmarked = b.unmarked;
}

left_on : (P Q : List ℕ → List ℕ → Type 0) (units pre inside : List ℕ) (left : ℕ) → units ≡ 91 ∷ pre ++ inside → ((front rest : List ℕ) → inside ≡ front ++ rest → P front rest → Q (91 ∷ pre ++ front) rest) → IsLeft inside left P → IsLeft units left Q
left_on P Q units pre inside left e f h = record {
  front = 91 ∷ pre ++ h.front;
  rest = h.rest;
  parts = e ∙ ap (λ (x : List ℕ). 91 ∷ pre ++ x) h.parts ∙ sym (append_assoc (91 ∷ pre) h.front h.rest);
  count = h.count;
  is = f h.front h.rest h.parts h.is;
}

pub class_faults_on : (r : Reader) (units inside : List ℕ) (negated : Bool) (e : Fault) → Begins units (piece.Class negated) inside → FaultOf MembersGo MembersStop NoMark inside e → FaultOf (GoesOn r units) (StopsAt r units) (IsMarkDue (StopsAt r units)) units e
class_faults_on r units inside negated e b h = by e h
  where
    o : Opening units negated inside
    o = opening units negated inside b

    l : Lift r units o.pre inside
    l = lift_of r units inside negated o

    by : (e : Fault) → FaultOf MembersGo MembersStop NoMark inside e → FaultOf (GoesOn r units) (StopsAt r units) (IsMarkDue (StopsAt r units)) units e
    by fault.NoMemory h = tt
    by (fault.Syntax left) h = left_on (IsSyntax MembersGo MembersStop NoMark) (IsSyntax (GoesOn r units) (StopsAt r units) (IsMarkDue (StopsAt r units))) units o.pre inside left o.is (λ front rest d s. syntax_on r units o.pre inside front rest l d s) h
    by (fault.BadEscape left) h = left_on (IsFirst 92 (IsBadEscape MembersGo MembersStop)) (IsFirst 92 (IsBadEscape (GoesOn r units) (StopsAt r units))) units o.pre inside left o.is (λ front rest d s. record { behind = s.behind; starts = s.starts; is = bad_on r units o.pre inside front rest s.behind l d s.is }) h
    by (fault.TooManyGroups left) h = left_on (IsFirst 40 (IsTenthGroup MembersGo MembersStop)) (IsFirst 40 (IsTenthGroup (GoesOn r units) (StopsAt r units))) units o.pre inside left o.is (λ front rest d s. record { behind = s.behind; starts = s.starts; is = tenth_on r units o.pre inside front rest s.behind l d s.is }) h
