-- Where no piece is in front.
use Rattle.std.proofs.Common.{◌≡◌, ℕ, ◌<◌, ◌≤◌, Bool, true, false, cond, List, [], ◌∷◌, ◌++◌, length, Option, Some, None, refl, sym, ap, subst, ◌∙◌, append_assoc, arith, inl, inr}
use Rattle.std.specs.Prelude.{◌⊎◌, ◌==◌, ◌&&◌, ◌||◌, nat_le}
use Rattle.std.specs.List.{list_all}
use Rattle.std.proofs.lemmas.Bool.{and_parts, eqb-true, ne_eqb}
use Rattle.re_ast.specs.declared.patterns.Node.{Node}
use Rattle.re_parser.specs.Agreement.{Agree}
use Rattle.js_units.specs.Characters.{is_digit}
use Rattle.re_parser.specs.Escapes.{starts}
use Rattle.re_parser.specs.Quantifiers.{quantifier_at, braces_at}
use Rattle.re_parser.specs.Pieces.{marked_group_at, group_at, class_at, escape_at, brace_piece, plain_at, piece_at}
use Rattle.re_parser.specs.Grammar.{Begins, atom_node}
use Rattle.re_parser.specs.Places.{IsMarkDue, IsSyntax}
use Rattle.re_parser.specs.Faults.{from_close, piece_fault}
use Rattle.re_parser.specs.Reading.{Left, Stuck, GoesOn, StopsAt, FaultOf, with_term}
use Rattle.re_parser.specs.declared.kinds.Braces.{Braces}
use Rattle.re_parser.specs.declared.kinds.Assertion.TheVariants as assertion
use Rattle.re_parser.specs.declared.kinds.GroupKind.TheVariants as group
use Rattle.re_parser.specs.declared.kinds.Atom.TheVariants as atom
use Rattle.re_parser.specs.declared.kinds.Piece.{Piece}
use Rattle.re_parser.specs.declared.kinds.Piece.TheVariants as piece
use Rattle.re_parser.specs.declared.reader.Frame.{Frame}
use Rattle.re_parser.specs.declared.reader.Reader.{Reader}
use Rattle.re_parser.specs.declared.refusal.Fault.{Fault}
use Rattle.re_parser.specs.declared.refusal.Fault.TheVariants as fault
use Rattle.re_parser.proofs.Numbers.{is_inner, braces_closing}
use Rattle.re_parser.proofs.Agreeing.{agree_end, agree_first, agree_behind}
use Rattle.re_parser.proofs.Goings.{closers, closers_none, closed_node, reader_closes, closers_agree, refused_here, unit_goes, outside_goes}
use Rattle.re_parser.proofs.Steps.{piece_stuck, inner}
use Rattle.std.proofs.lemmas.List.{append-nil}
use Rattle.std.proofs.lemmas.List.Folds.{list_all-append}
use Rattle.std.proofs.lemmas.Bool.{leb-true}
use Rattle.re_parser.proofs.Agreeing.{is_brace, shut_front, inner_parts}
use Rattle.re_parser.proofs.Refusals.{bad_escape, mark_syntax, deep_syntax}

-- ---- braces

inner_range : (u : ℕ) → is_inner u ≡ true → (44 ≤ u) × (u ≤ 57) × (u ≡ 46 → ⊥)
unfolding is_digit
inner_range u e = by (nat_le 48 u) (nat_le u 57) (u == 44) refl refl refl e
  where
    by : (a b c : Bool) → nat_le 48 u ≡ a → nat_le u 57 ≡ b → (u == 44) ≡ c → ((a && b) || c) ≡ true → (44 ≤ u) × (u ≤ 57) × (u ≡ 46 → ⊥)
    by true true c d f g h = let low = leb-true 48 u d in let high = leb-true u 57 f in (omega arith, omega arith, λ k. omega arith)
    by true false true d f g h = let is = eqb-true u 44 g in (omega arith, omega arith, λ k. omega arith)
    by false b true d f g h = let is = eqb-true u 44 g in (omega arith, omega arith, λ k. omega arith)
    by true false false d f g h = absurd cc
    by false b false d f g h = absurd cc

inner_piece : (u : ℕ) (more : List ℕ) → is_inner u ≡ true → Begins (u ∷ more) (piece.Atom (atom.Unit u)) more
unfolding piece_at plain_at
inner_piece u more e =
    let h = inner_range u e in
    let low = h.0 in
    let high = h.1 in
    rw (ne_eqb u 92 (λ k. omega arith), ne_eqb u 40 (λ k. omega arith), ne_eqb u 91 (λ k. omega arith), ne_eqb u 123 (λ k. omega arith)) (rw (ne_eqb u 124 (λ k. omega arith), ne_eqb u 41 (λ k. omega arith), ne_eqb u 94 (λ k. omega arith), ne_eqb u 36 (λ k. omega arith), ne_eqb u 46 h.2, ne_eqb u 42 (λ k. omega arith), ne_eqb u 43 (λ k. omega arith), ne_eqb u 63 (λ k. omega arith)) refl)

inner_none : (u : ℕ) (more : List ℕ) → is_inner u ≡ true → quantifier_at (u ∷ more) ≡ None
unfolding quantifier_at
inner_none u more e =
    let h = inner_range u e in
    let low = h.0 in
    let high = h.1 in
    rw (ne_eqb u 42 (λ k. omega arith), ne_eqb u 43 (λ k. omega arith), ne_eqb u 63 (λ k. omega arith), ne_eqb u 123 (λ k. omega arith)) refl

inner_quantifier : (inner tail : List ℕ) → list_all is_inner inner ≡ true → quantifier_at tail ≡ None → quantifier_at (inner ++ tail) ≡ None
inner_quantifier [] tail k e = e
inner_quantifier (u ∷ inner) tail k e = inner_none u (inner ++ tail) (and_parts (is_inner u) (list_all is_inner inner) k).0

-- a reader that these units close
record Closed (r : Reader) (units : List ℕ) : Type 0 where
  node : Node
  leads : Left (None, r.groups, node) r units

inner_goes : (inner : List ℕ) → list_all is_inner inner ≡ true → (r : Reader) (tail : List ℕ) → quantifier_at tail ≡ None → ((terms : List Node) → Closed (record r { terms = terms }) tail) → Closed r (inner ++ tail)
inner_goes [] k r tail e h = h r.terms
inner_goes (u ∷ inner) k r tail e h =
    let p = and_parts (is_inner u) (list_all is_inner inner) k in
    let c = inner_goes inner p.1 (with_term r (atom_node (atom.Unit u), [])).0 tail e h in
    record { node = c.node; leads = unit_goes r u (inner ++ tail) (None, r.groups, c.node) (inner_piece u (inner ++ tail) p.0) (inner_quantifier inner tail p.1 e) c.leads }

-- without a `}` they don't count
no_close : (inner other t : List ℕ) → list_all is_inner inner ≡ true → inner ++ [] ≡ other ++ 125 ∷ t → ⊥
unfolding is_digit
no_close inner other t k e =
    let same : inner ≡ other ++ 125 ∷ t = sym (append-nil inner) ∙ e in
    let all : list_all is_inner (other ++ 125 ∷ t) ≡ true = subst (λ (x : List ℕ). list_all is_inner x ≡ true) same k in
    let both : (list_all is_inner other && list_all is_inner (125 ∷ t)) ≡ true = sym (list_all-append is_inner other (125 ∷ t)) ∙ all in
    let no : false ≡ true = (and_parts (list_all is_inner other) (list_all is_inner (125 ∷ t)) both).1 in
    cc

no_braces : (inner tail : List ℕ) → list_all is_inner inner ≡ true → starts is_brace tail ≡ false → braces_at (inner ++ tail) ≡ None
no_braces inner tail k n = by (braces_at (inner ++ tail)) refl
  where
    by : (o : Option (Braces × List ℕ)) → braces_at (inner ++ tail) ≡ o → braces_at (inner ++ tail) ≡ None
    by None d = d
    by (Some x) d = absurd (
        let c = braces_closing (inner ++ tail) x.0 x.1 d in
        let s = shut_front inner tail c.inner x.1 (inner_parts (inner ++ tail) c.part c.inner x.1 c.parts c.is) n c.counts in
        no_close inner c.inner (s.tail []) k (s.is []))

brace_begins : (more : List ℕ) → braces_at more ≡ None → Begins (123 ∷ more) (piece.Atom (atom.Unit 123)) more
unfolding piece_at
brace_begins more e = rw e refl

brace_goes : (r : Reader) (inner tail : List ℕ) → list_all is_inner inner ≡ true → starts is_brace tail ≡ false → quantifier_at tail ≡ None → ((terms : List Node) → Closed (record r { terms = terms }) tail) → Closed r (123 ∷ inner ++ tail)
brace_goes r inner tail k n e h =
    let c = inner_goes inner k (with_term r (atom_node (atom.Unit 123), [])).0 tail e h in
    record { node = c.node; leads = unit_goes r 123 (inner ++ tail) (None, r.groups, c.node) (brace_begins (inner ++ tail) (no_braces inner tail k n)) (inner_quantifier inner tail k e) c.leads }

closers_brace : (fs : List Frame) → starts is_brace (closers fs) ≡ false
unfolding is_digit
closers_brace [] = refl
closers_brace (f ∷ fs) = refl

outside_brace : (more : List ℕ) → starts is_brace (128 ∷ more) ≡ false
unfolding is_digit
outside_brace more = refl

outside_quantifier : (more : List ℕ) → quantifier_at (128 ∷ more) ≡ None
unfolding quantifier_at
outside_quantifier more = refl

outside_agree : (units more : List ℕ) → Agree units (128 ∷ more)
unfolding is_digit
outside_agree units more = agree_end units (128 ∷ more) refl refl refl refl (outside_quantifier more)

brace_agree : (us more : List ℕ) → Agree (125 ∷ us) (125 ∷ more)
unfolding is_digit
brace_agree us more = agree_first 125 us more refl refl

brace_digit : (us : List ℕ) → starts is_digit (125 ∷ us) ≡ false
unfolding is_digit
brace_digit us = refl

brace_stuck : (r : Reader) (us : List ℕ) (x : Braces × List ℕ) → braces_at us ≡ Some x → Stuck r (123 ∷ us)
unfolding piece_at
brace_stuck r us x e = piece_stuck r 123 us (ap (λ (o : Option (Braces × List ℕ)). brace_piece o us) e)

brace_syntax : (r : Reader) (inner t : List ℕ) (b : Braces) → list_all is_inner inner ≡ true → ((more : List ℕ) → braces_at ((inner ++ 125 ∷ []) ++ more) ≡ Some (b, more)) → IsSyntax (GoesOn r (123 ∷ inner ++ 125 ∷ t)) (StopsAt r (123 ∷ inner ++ 125 ∷ t)) (IsMarkDue (StopsAt r (123 ∷ inner ++ 125 ∷ t))) (123 ∷ inner) (125 ∷ t)
brace_syntax r inner t b k again =
    let shut = brace_goes r inner (closers r.frames) k (closers_brace r.frames) (closers_none r.frames) (λ terms. record { node = closed_node (record r { terms = terms }); leads = reader_closes (record r { terms = terms }) }) in
    let on = brace_goes r inner (128 ∷ closers r.frames) k (outside_brace (closers r.frames)) (outside_quantifier (closers r.frames)) (λ terms. record { node = closed_node (with_term (record r { terms = terms }) (atom_node (atom.Unit 128), [])).0; leads = outside_goes (record r { terms = terms }) }) in
    record {
      before = record { more = closers r.frames; agrees = agree_behind (123 ∷ inner) (125 ∷ t) (closers r.frames) (closers_agree (125 ∷ t) r.frames); groups = r.groups; node = shut.node; leads = shut.leads };
      there = λ u behind d more.
          let same : 125 ≡ u = cc in
          let stops : Agree (123 ∷ inner ++ 125 ∷ t) (123 ∷ ((inner ++ 125 ∷ []) ++ more)) × Stuck r (123 ∷ ((inner ++ 125 ∷ []) ++ more)) = (subst (λ (x : List ℕ). Agree (123 ∷ inner ++ 125 ∷ t) (123 ∷ x)) (sym (append_assoc inner (125 ∷ []) more)) (agree_behind (123 ∷ inner) (125 ∷ t) (125 ∷ more) (brace_agree t more)), brace_stuck r ((inner ++ 125 ∷ []) ++ more) (b, more) (again more)) in
          subst (λ (x : ℕ). Agree (123 ∷ inner ++ 125 ∷ t) (123 ∷ ((inner ++ x ∷ []) ++ more)) × Stuck r (123 ∷ ((inner ++ x ∷ []) ++ more))) same stops;
      reason = inl (
        128,
        omega arith,
        record {
          more = closers r.frames;
          agrees = subst (λ (x : List ℕ). Agree (123 ∷ inner ++ 125 ∷ t) x) (sym (append_assoc (123 ∷ inner) (128 ∷ []) (closers r.frames))) (agree_behind (123 ∷ inner) (125 ∷ t) (128 ∷ closers r.frames) (outside_agree (125 ∷ t) (closers r.frames)));
          groups = r.groups;
          node = on.node;
          leads = subst (λ (x : List ℕ). Left (None, r.groups, on.node) r x) (sym (append_assoc (123 ∷ inner) (128 ∷ []) (closers r.frames))) on.leads;
        },
        inl (brace_digit t),
      );
    }

from_inner : (inner t : List ℕ) → list_all is_inner inner ≡ true → from_close (inner ++ 125 ∷ t) ≡ 125 ∷ t
from_inner [] t k = refl
from_inner (u ∷ inner) t k =
    let p = and_parts (is_inner u) (list_all is_inner inner) k in
    let h = inner_range u p.0 in
    let high = h.1 in
    rw (ne_eqb u 125 (λ e. omega arith)) (from_inner inner t p.1)

abbrev At : Reader → List ℕ → Fault → Type 0
At r units e = FaultOf (GoesOn r units) (StopsAt r units) (IsMarkDue (StopsAt r units)) units e

brace_at : (r : Reader) (us : List ℕ) (x : Braces × List ℕ) → braces_at us ≡ Some x → At r (123 ∷ us) (fault.Syntax (length (from_close us)))
brace_at r us x e =
    let c = braces_closing us x.0 x.1 e in
    let parts = inner_parts us c.part c.inner x.1 c.parts c.is in
    record {
      front = 123 ∷ c.inner;
      rest = 125 ∷ x.1;
      parts = ap (λ (q : List ℕ). 123 ∷ q) parts;
      count = ap (λ (q : List ℕ). length (from_close q)) parts ∙ ap (λ (q : List ℕ). length q) (from_inner c.inner x.1 c.counts);
      is = subst (λ (q : List ℕ). IsSyntax (GoesOn r (123 ∷ q)) (StopsAt r (123 ∷ q)) (IsMarkDue (StopsAt r (123 ∷ q))) (123 ∷ c.inner) (125 ∷ x.1)) (sym parts)
          (brace_syntax r c.inner x.1 x.0 c.counts (λ more. subst (λ (q : List ℕ). braces_at (q ++ more) ≡ Some (x.0, more)) c.is (c.again more)));
    }

-- ---- other units

quantifies : (u : ℕ) (us : List ℕ) → plain_at u us ≡ None → (u ≡ 42) ⊎ ((u ≡ 43) ⊎ (u ≡ 63))
unfolding plain_at
quantifies u us e = by (u == 124) (u == 41) (u == 94) (u == 36) (u == 46) (u == 42) (u == 43) (u == 63) refl refl refl e
  where
    by : (a b c d f g h i : Bool) → (u == 42) ≡ g → (u == 43) ≡ h → (u == 63) ≡ i
        → cond {A = Option (Piece × List ℕ)} a (Some (piece.Bar, us)) (cond b (Some (piece.Close, us)) (cond c (Some (piece.Assertion assertion.LineStart, us)) (cond d (Some (piece.Assertion assertion.LineEnd, us)) (cond f (Some (piece.Atom atom.Dot, us)) (cond g None (cond h None (cond i None (Some (piece.Atom (atom.Unit u), us))))))))) ≡ None
        → (u ≡ 42) ⊎ ((u ≡ 43) ⊎ (u ≡ 63))
    by true b c d f g h i x y z e = absurd cc
    by false true c d f g h i x y z e = absurd cc
    by false false true d f g h i x y z e = absurd cc
    by false false false true f g h i x y z e = absurd cc
    by false false false false true g h i x y z e = absurd cc
    by false false false false false true h i x y z e = inl (eqb-true u 42 x)
    by false false false false false false true i x y z e = inr (inl (eqb-true u 43 y))
    by false false false false false false false true x y z e = inr (inr (eqb-true u 63 z))
    by false false false false false false false false x y z e = absurd cc

mark_agree : (u : ℕ) (us more : List ℕ) → (u ≡ 42) ⊎ ((u ≡ 43) ⊎ (u ≡ 63)) → Agree (u ∷ us) (u ∷ more)
unfolding is_digit
mark_agree u us more (inl e) = subst (λ (x : ℕ). Agree (x ∷ us) (x ∷ more)) (sym e) (agree_first 42 us more refl refl)
mark_agree u us more (inr (inl e)) = subst (λ (x : ℕ). Agree (x ∷ us) (x ∷ more)) (sym e) (agree_first 43 us more refl refl)
mark_agree u us more (inr (inr e)) = subst (λ (x : ℕ). Agree (x ∷ us) (x ∷ more)) (sym e) (agree_first 63 us more refl refl)

mark_stuck : (r : Reader) (u : ℕ) (more : List ℕ) → (u ≡ 42) ⊎ ((u ≡ 43) ⊎ (u ≡ 63)) → Stuck r (u ∷ more)
unfolding piece_at plain_at
mark_stuck r u more (inl e) = subst (λ (x : ℕ). Stuck r (x ∷ more)) (sym e) (piece_stuck r 42 more refl)
mark_stuck r u more (inr (inl e)) = subst (λ (x : ℕ). Stuck r (x ∷ more)) (sym e) (piece_stuck r 43 more refl)
mark_stuck r u more (inr (inr e)) = subst (λ (x : ℕ). Stuck r (x ∷ more)) (sym e) (piece_stuck r 63 more refl)

mark_digit : (u : ℕ) (us : List ℕ) → (u ≡ 42) ⊎ ((u ≡ 43) ⊎ (u ≡ 63)) → starts is_digit (u ∷ us) ≡ false
unfolding is_digit
mark_digit u us (inl e) = subst (λ (x : ℕ). starts is_digit (x ∷ us) ≡ false) (sym e) refl
mark_digit u us (inr (inl e)) = subst (λ (x : ℕ). starts is_digit (x ∷ us) ≡ false) (sym e) refl
mark_digit u us (inr (inr e)) = subst (λ (x : ℕ). starts is_digit (x ∷ us) ≡ false) (sym e) refl

mark_here : (r : Reader) (u : ℕ) (us : List ℕ) → plain_at u us ≡ None → IsSyntax (GoesOn r (u ∷ us)) (StopsAt r (u ∷ us)) (IsMarkDue (StopsAt r (u ∷ us))) [] (u ∷ us)
mark_here r u us e =
    let q = quantifies u us e in
    refused_here r (u ∷ us) (mark_digit u us q) (λ v behind d more. let same : u ≡ v = cc in subst (λ (x : ℕ). Agree (u ∷ us) (x ∷ more) × Stuck r (x ∷ more)) same (mark_agree u us more q, mark_stuck r u more q))

class_some : (us : List ℕ) → class_at us ≡ None → ⊥
unfolding class_at
class_some [] e = cc
class_some (u ∷ us) e = by (u == 94) e
  where
    by : (c : Bool) → cond {A = Option (Piece × List ℕ)} c (Some (piece.Class true, us)) (Some (piece.Class false, u ∷ us)) ≡ None → ⊥
    by true e = cc
    by false e = cc

-- ---- the fault

group_none : (us : List ℕ) → group_at us ≡ None → (vs : List ℕ) × (us ≡ 63 ∷ vs) × (marked_group_at vs ≡ None)
unfolding group_at
group_none [] e = absurd cc
group_none (u ∷ us) e = by (u == 63) refl e
  where
    by : (c : Bool) → (u == 63) ≡ c → cond {A = Option (Piece × List ℕ)} c (marked_group_at us) (Some (piece.Open group.Capturing, u ∷ us)) ≡ None → (vs : List ℕ) × (u ∷ us ≡ 63 ∷ vs) × (marked_group_at vs ≡ None)
    by true d e = (us, ap (λ (x : ℕ). x ∷ us) (eqb-true u 63 d), e)
    by false d e = absurd cc

group_fault : (r : Reader) (deep : Bool) → (deep ≡ true → 100 ≤ length r.frames) → (deep ≡ false → length r.frames < 100) → (us : List ℕ) → group_at us ≡ None → At r (40 ∷ us) (piece_fault deep (40 ∷ us))
unfolding piece_fault
group_fault r true h k us e = record { front = []; rest = 40 ∷ us; parts = refl; count = refl; is = deep_syntax r us (h refl) }
group_fault r false h k us e =
    let g = group_none us e in
    subst (λ (x : List ℕ). At r (40 ∷ x) (piece_fault false (40 ∷ x))) (sym g.1) (record { front = 40 ∷ 63 ∷ []; rest = g.0; parts = refl; count = refl; is = mark_syntax r g.0 (k refl) g.2 })

brace_fault : (r : Reader) (deep : Bool) (us : List ℕ) → brace_piece (braces_at us) us ≡ None → At r (123 ∷ us) (piece_fault deep (123 ∷ us))
unfolding piece_fault
brace_fault r deep us e = by (braces_at us) refl e
  where
    by : (o : Option (Braces × List ℕ)) → braces_at us ≡ o → brace_piece o us ≡ None → At r (123 ∷ us) (piece_fault deep (123 ∷ us))
    by None d e = absurd cc
    by (Some x) d e = brace_at r us x d

plain_fault : (r : Reader) (deep : Bool) (u : ℕ) (us : List ℕ) → (u == 92) ≡ false → (u == 40) ≡ false → (u == 123) ≡ false → plain_at u us ≡ None → At r (u ∷ us) (piece_fault deep (u ∷ us))
unfolding piece_fault
plain_fault r deep u us a b c e = rw (a, b, c) (record { front = []; rest = u ∷ us; parts = refl; count = refl; is = mark_here r u us e })

escape_fault : (r : Reader) (deep : Bool) (us : List ℕ) → escape_at us ≡ None → At r (92 ∷ us) (piece_fault deep (92 ∷ us))
unfolding piece_fault
escape_fault r deep us e = record { front = []; rest = 92 ∷ us; parts = refl; count = refl; is = record { behind = us; starts = refl; is = bad_escape r us e } }

piece_faults_of : (r : Reader) (deep : Bool) → (deep ≡ true → 100 ≤ length r.frames) → (deep ≡ false → length r.frames < 100) → (u : ℕ) (us : List ℕ) → piece_at (u ∷ us) ≡ None → At r (u ∷ us) (piece_fault deep (u ∷ us))
unfolding piece_at
piece_faults_of r deep h k u us e = by (u == 92) (u == 40) (u == 91) (u == 123) refl refl refl refl e
  where
    by : (a b c d : Bool) → (u == 92) ≡ a → (u == 40) ≡ b → (u == 91) ≡ c → (u == 123) ≡ d → cond {A = Option (Piece × List ℕ)} a (escape_at us) (cond b (group_at us) (cond c (class_at us) (cond d (brace_piece (braces_at us) us) (plain_at u us)))) ≡ None → At r (u ∷ us) (piece_fault deep (u ∷ us))
    by true b c d w x y z e = subst (λ (q : ℕ). At r (q ∷ us) (piece_fault deep (q ∷ us))) (sym (eqb-true u 92 w)) (escape_fault r deep us e)
    by false true c d w x y z e = subst (λ (q : ℕ). At r (q ∷ us) (piece_fault deep (q ∷ us))) (sym (eqb-true u 40 x)) (group_fault r deep h k us e)
    by false false true d w x y z e = absurd (class_some us e)
    by false false false true w x y z e = subst (λ (q : ℕ). At r (q ∷ us) (piece_fault deep (q ∷ us))) (sym (eqb-true u 123 z)) (brace_fault r deep us e)
    by false false false false w x y z e = plain_fault r deep u us w x z e

pub piece_faults : (r : Reader) (deep : Bool) → (deep ≡ true → 100 ≤ length r.frames) → (deep ≡ false → length r.frames < 100) → (units : List ℕ) → 0 < length units → piece_at units ≡ None → At r units (piece_fault deep units)
piece_faults r deep h k [] l e = absurd (omega arith)
piece_faults r deep h k (u ∷ us) l e = piece_faults_of r deep h k u us e
