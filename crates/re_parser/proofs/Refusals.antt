-- Where a reader stops in front of a piece, or of none.
use Rattle.std.proofs.Common.{◌≡◌, ℕ, ◌+◌, ◌<◌, ◌≤◌, Bool, true, false, cond, List, [], ◌∷◌, ◌++◌, length, Option, Some, None, refl, sym, ap, subst, ◌∙◌, arith, inl, inr}
use Rattle.std.specs.Prelude.{◌==◌, ◌&&◌, nat_le, nat_lt}
use Rattle.std.proofs.lemmas.Bool.{eqb-true, ne_eqb, le-ltb, lt-leb}
use Rattle.re_ast.specs.declared.patterns.Node.{Node}
use Rattle.re_parser.specs.Agreement.{Agree, is_question}
use Rattle.js_units.specs.Characters.{is_digit}
use Rattle.re_parser.specs.Characters.{is_sign, control_of}
use Rattle.re_parser.specs.Escapes.{starts, class_escape_of, character_at}
use Rattle.re_parser.specs.Quantifiers.{quantifier_at}
use Rattle.re_parser.specs.Pieces.{marked_group_at, group_at, escape_at, plain_at, piece_at}
use Rattle.re_parser.specs.Grammar.{Begins, atom_node, begun}
use Rattle.re_parser.specs.Places.{IsMarkDue, IsSyntax, IsBadEscape, IsTenthGroup}
use Rattle.re_parser.specs.Reading.{Left, Stuck, GoesOn, StopsAt, FaultOf, OpenFault, CloseFault, with_term}
use Rattle.re_parser.specs.declared.kinds.ClassEscape.TheVariants as escape
use Rattle.re_parser.specs.declared.kinds.GroupKind.{GroupKind}
use Rattle.re_parser.specs.declared.kinds.GroupKind.TheVariants as group
use Rattle.re_parser.specs.declared.kinds.Atom.TheVariants as atom
use Rattle.re_parser.specs.declared.kinds.Piece.{Piece}
use Rattle.re_parser.specs.declared.kinds.Piece.TheVariants as piece
use Rattle.re_parser.specs.declared.reader.Frame.{Frame}
use Rattle.re_parser.specs.declared.reader.Reader.{Reader}
use Rattle.re_parser.specs.declared.refusal.Fault.{Fault}
use Rattle.re_parser.specs.declared.refusal.Fault.TheVariants as fault
use Rattle.re_parser.proofs.Agreeing.{agree_end, agree_first}
use Rattle.re_parser.proofs.Goings.{closers, closers_none, closed_node, reader_closes, quantified_rest, refused_here}
use Rattle.re_parser.proofs.Steps.{atom_same, open_same, open_stuck, close_stuck, piece_stuck, inner}
use Rattle.re_parser.proofs.Firsts.{is_open, marked_is, group_open, captures, no_mark, mark_none, piece_first}

-- ---- a `\`

escape_begins : (more : List ℕ) → Begins (92 ∷ 100 ∷ more) (piece.Atom (atom.Escape escape.Digit)) more
unfolding piece_at escape_at class_escape_of
escape_begins more = refl

backslash_none : (more : List ℕ) → quantifier_at (92 ∷ more) ≡ None
unfolding quantifier_at
backslash_none more = refl

pub backslash_agree : (units more : List ℕ) → Agree units (92 ∷ more)
unfolding is_digit
backslash_agree units more = agree_end units (92 ∷ more) refl refl refl refl (backslash_none more)

abbrev with_digit : Reader → Reader
with_digit r = (with_term r (atom_node (atom.Escape escape.Digit), [])).0

escape_goes : (r : Reader) → Left (None, r.groups, closed_node (with_digit r)) r (92 ∷ 100 ∷ closers r.frames)
escape_goes r =
    (atom_same r (92 ∷ 100 ∷ closers r.frames) (closers r.frames) (atom.Escape escape.Digit) (escape_begins (closers r.frames)) (None, r.groups, closed_node (with_digit r))).1
    (subst (λ (x : Node × List ℕ). Left (None, r.groups, closed_node (with_digit r)) (with_term r x).0 x.1) (sym (quantified_rest (r.groups + 1) (atom_node (atom.Escape escape.Digit)) (r.groups + 1) (closers r.frames) (closers_none r.frames))) (reader_closes (with_digit r)))

not_below : (u : ℕ) → 128 ≤ u → nat_lt u 128 ≡ false
not_below u h = le-ltb u 128 h

not_above : (u : ℕ) → 128 ≤ u → (nat_le 49 u && nat_le u 57) ≡ false
not_above u h = by (nat_le 49 u) (nat_le u 57) (lt-leb u 57 (omega arith))
  where
    by : (a b : Bool) → b ≡ false → (a && b) ≡ false
    by true b e = e
    by false b e = refl

-- no unit outside of ASCII stands behind a `\`
pub outside_character : (u : ℕ) (us : List ℕ) → 128 ≤ u → character_at (u ∷ us) ≡ None
unfolding character_at is_sign control_of
outside_character u us h = rw (ne_eqb u 120 (λ e. omega arith), ne_eqb u 117 (λ e. omega arith), ne_eqb u 48 (λ e. omega arith), not_below u h, ne_eqb u 102 (λ e. omega arith), ne_eqb u 110 (λ e. omega arith), ne_eqb u 114 (λ e. omega arith), ne_eqb u 116 (λ e. omega arith), ne_eqb u 118 (λ e. omega arith)) refl

pub outside_escape : (u : ℕ) (us : List ℕ) → 128 ≤ u → escape_at (u ∷ us) ≡ None
unfolding escape_at class_escape_of
outside_escape u us h = rw (ne_eqb u 98 (λ e. omega arith), ne_eqb u 66 (λ e. omega arith), not_above u h) (rw (ne_eqb u 100 (λ e. omega arith), ne_eqb u 68 (λ e. omega arith), ne_eqb u 115 (λ e. omega arith), ne_eqb u 83 (λ e. omega arith), ne_eqb u 119 (λ e. omega arith), ne_eqb u 87 (λ e. omega arith), outside_character u us h) refl)

backslash_stuck : (r : Reader) (us more : List ℕ) → escape_at more ≡ None → Stuck r (92 ∷ more)
unfolding piece_at
backslash_stuck r us more e = piece_stuck r 92 more e

pub bad_escape : (r : Reader) (us : List ℕ) → escape_at us ≡ None → IsBadEscape (GoesOn r (92 ∷ us)) (StopsAt r (92 ∷ us)) [] us
bad_escape r us e = record {
  begins = record { more = 100 ∷ closers r.frames; agrees = backslash_agree (92 ∷ us) (100 ∷ closers r.frames); groups = r.groups; node = closed_node (with_digit r); leads = escape_goes r };
  escapes = λ ws n more. (backslash_agree (92 ∷ us) (ws ++ more), backslash_stuck r us (ws ++ more) (n more).0);
  unlisted = inl e;
}

-- ---- a `(`

plain_begins : (more : List ℕ) → Begins (40 ∷ 63 ∷ 58 ∷ more) (piece.Open group.Plain) more
unfolding piece_at group_at
plain_begins more = refl

plain_begun : (groups : ℕ) → begun group.Plain groups ≡ Some groups
unfolding begun
plain_begun groups = refl

parenthesis_agree : (us more : List ℕ) → Agree (40 ∷ us) (40 ∷ more)
unfolding is_digit
parenthesis_agree us more = agree_first 40 us more refl refl

pub plain_goes : (r : Reader) → length r.frames < 100 → Left (None, r.groups, closed_node (inner r group.Plain r.groups)) r (40 ∷ 63 ∷ 58 ∷ 41 ∷ closers r.frames)
plain_goes r h = (open_same r (40 ∷ 63 ∷ 58 ∷ 41 ∷ closers r.frames) (41 ∷ closers r.frames) group.Plain r.groups (plain_begins (41 ∷ closers r.frames)) h (plain_begun r.groups) (None, r.groups, closed_node (inner r group.Plain r.groups))).1 (reader_closes (inner r group.Plain r.groups))

mark_stuck : (r : Reader) (more : List ℕ) → marked_group_at more ≡ None → Stuck r (40 ∷ 63 ∷ more)
unfolding piece_at group_at
mark_stuck r more e = piece_stuck r 40 (63 ∷ more) e

pub mark_syntax : (r : Reader) (us : List ℕ) → length r.frames < 100 → marked_group_at us ≡ None → IsSyntax (GoesOn r (40 ∷ 63 ∷ us)) (StopsAt r (40 ∷ 63 ∷ us)) (IsMarkDue (StopsAt r (40 ∷ 63 ∷ us))) (40 ∷ 63 ∷ []) us
mark_syntax r us h e = record {
  before = record { more = 58 ∷ 41 ∷ closers r.frames; agrees = parenthesis_agree (63 ∷ us) (63 ∷ 58 ∷ 41 ∷ closers r.frames); groups = r.groups; node = closed_node (inner r group.Plain r.groups); leads = plain_goes r h };
  there = λ u behind d more. (parenthesis_agree (63 ∷ us) (63 ∷ u ∷ more), mark_stuck r (u ∷ more) (mark_none u behind more (ap marked_group_at (sym d) ∙ e)));
  reason = inr (inl ((40 ∷ [], refl), λ u n more. (parenthesis_agree (63 ∷ us) (63 ∷ u ∷ more), mark_stuck r (u ∷ more) (no_mark u more n))));
}

-- too deep
deep_stuck : (r : Reader) (more : List ℕ) → 100 ≤ length r.frames → Stuck r (40 ∷ more)
unfolding piece_at
deep_stuck r more h = by (group_at more) refl
  where
    deep : (p : Piece) (rest : List ℕ) → group_at more ≡ Some (p, rest) → is_open p ≡ true → Stuck r (40 ∷ more)
    deep (piece.Open kind) rest e o = open_stuck r (40 ∷ more) rest kind e (λ lt within some. absurd (omega arith))
    deep _ rest e o = absurd cc

    by : (o : Option (Piece × List ℕ)) → group_at more ≡ o → Stuck r (40 ∷ more)
    by None e = piece_stuck r 40 more e
    by (Some x) e = deep x.0 x.1 e (group_open more x.0 x.1 e)

open_digit : (us : List ℕ) → starts is_digit (40 ∷ us) ≡ false
unfolding is_digit
open_digit us = refl

pub deep_syntax : (r : Reader) (us : List ℕ) → 100 ≤ length r.frames → IsSyntax (GoesOn r (40 ∷ us)) (StopsAt r (40 ∷ us)) (IsMarkDue (StopsAt r (40 ∷ us))) [] (40 ∷ us)
deep_syntax r us h = refused_here r (40 ∷ us) (open_digit us) (λ u behind d more. let same : u ≡ 40 = cc in subst (λ (x : ℕ). Agree (40 ∷ us) (x ∷ more) × Stuck r (x ∷ more)) (sym same) (parenthesis_agree us more, deep_stuck r more h))

capture_begins : (more : List ℕ) → starts is_question more ≡ false → Begins (40 ∷ more) (piece.Open group.Capturing) more
unfolding piece_at
capture_begins more e = captures more e

tenth : (r : Reader) (us : List ℕ) → length r.frames < 100 → begun group.Capturing r.groups ≡ None → starts is_question us ≡ false → IsTenthGroup (GoesOn r (40 ∷ us)) (StopsAt r (40 ∷ us)) [] us
tenth r us h g n = record {
  begins = record { more = 63 ∷ 58 ∷ 41 ∷ closers r.frames; agrees = parenthesis_agree us (63 ∷ 58 ∷ 41 ∷ closers r.frames); groups = r.groups; node = closed_node (inner r group.Plain r.groups); leads = plain_goes r h };
  only_marked = λ u d more. (parenthesis_agree us (u ∷ more), open_stuck r (40 ∷ u ∷ more) (u ∷ more) group.Capturing (capture_begins (u ∷ more) d) (λ lt within some. let none : Some within ≡ None = sym some ∙ g in absurd cc));
  unmarked = n;
}

-- a `(` that captures has no `?` behind it
unmarked : (us rest : List ℕ) → group_at us ≡ Some (piece.Open group.Capturing, rest) → starts is_question us ≡ false
unfolding group_at
unmarked [] rest e = refl
unmarked (u ∷ us) rest e = by (u == 63) refl e
  where
    by : (c : Bool) → (u == 63) ≡ c → cond {A = Option (Piece × List ℕ)} c (marked_group_at us) (Some (piece.Open group.Capturing, u ∷ us)) ≡ Some (piece.Open group.Capturing, rest) → c ≡ false
    by false d e = refl
    by true d e = absurd (let is = marked_is us (piece.Open group.Capturing) rest e in cc)

abbrev At : Reader → List ℕ → Fault → Type 0
At r units e = FaultOf (GoesOn r units) (StopsAt r units) (IsMarkDue (StopsAt r units)) units e

open_at : (r : Reader) (us rest : List ℕ) (kind : GroupKind) (e : Fault) → group_at us ≡ Some (piece.Open kind, rest) → OpenFault r kind (length (40 ∷ us)) e → At r (40 ∷ us) e
unfolding begun
open_at r us rest kind fault.NoMemory g h = tt
open_at r us rest kind (fault.Syntax n) g h = record { front = []; rest = 40 ∷ us; parts = refl; count = h.0; is = deep_syntax r us h.1 }
open_at r us rest group.Capturing (fault.TooManyGroups n) g h = record { front = []; rest = 40 ∷ us; parts = refl; count = h.0; is = record { behind = us; starts = refl; is = tenth r us h.1 h.2 (unmarked us rest g) } }
open_at r us rest _ (fault.TooManyGroups n) g h = absurd (let no = h.2 in cc)
open_at r us rest kind (fault.BadEscape n) g h = absurd h

pub open_faults : (r : Reader) (units rest : List ℕ) (kind : GroupKind) (e : Fault) → Begins units (piece.Open kind) rest → OpenFault r kind (length units) e → At r units e
unfolding piece_at
open_faults r [] rest kind e b h = absurd cc
open_faults r (u ∷ us) rest kind e b h = at_parenthesis u (eqb-true u 40 (piece_first u us (piece.Open kind) rest b)) b h
  where
    at_parenthesis : (v : ℕ) → v ≡ 40 → piece_at (v ∷ us) ≡ Some (piece.Open kind, rest) → OpenFault r kind (length (v ∷ us)) e → At r (v ∷ us) e
    at_parenthesis v d b h = subst (λ (x : ℕ). At r (x ∷ us) e) (sym d) (open_at r us rest kind e (ap (λ (x : ℕ). piece_at (x ∷ us)) (sym d) ∙ b) h)

-- ---- a `)`

close_begins : (more : List ℕ) → Begins (41 ∷ more) piece.Close more
unfolding piece_at plain_at
close_begins more = refl

close_agree : (us more : List ℕ) → Agree (41 ∷ us) (41 ∷ more)
unfolding is_digit
close_agree us more = agree_first 41 us more refl refl

close_digit : (us : List ℕ) → starts is_digit (41 ∷ us) ≡ false
unfolding is_digit
close_digit us = refl

close_here : (r : Reader) (us : List ℕ) (fs : List Frame) → fs ≡ [] → r.frames ≡ fs → IsSyntax (GoesOn r (41 ∷ us)) (StopsAt r (41 ∷ us)) (IsMarkDue (StopsAt r (41 ∷ us))) [] (41 ∷ us)
close_here r us fs e f = refused_here r (41 ∷ us) (close_digit us) (λ u behind d more. let same : u ≡ 41 = cc in subst (λ (x : ℕ). Agree (41 ∷ us) (x ∷ more) × Stuck r (x ∷ more)) (sym same) (close_agree us more, none r.frames (f ∙ e) more))
  where
    none : (gs : List Frame) → gs ≡ [] → (more : List ℕ) → Stuck (record r { frames = gs }) (41 ∷ more)
    none [] d more = close_stuck r (41 ∷ more) more (close_begins more)
    none (g ∷ gs) d more = absurd cc

pub close_faults : (r : Reader) (units rest : List ℕ) (e : Fault) → Begins units piece.Close rest → CloseFault r (length units) e → At r units e
unfolding piece_at
close_faults r units rest fault.NoMemory b h = tt
close_faults r [] rest (fault.Syntax n) b h = absurd cc
close_faults r (u ∷ us) rest (fault.Syntax n) b h =
    record { front = []; rest = u ∷ us; parts = refl; count = h.0; is = subst (λ (x : ℕ). IsSyntax (GoesOn r (x ∷ us)) (StopsAt r (x ∷ us)) (IsMarkDue (StopsAt r (x ∷ us))) [] (x ∷ us)) (sym (eqb-true u 41 (piece_first u us piece.Close rest b))) (close_here r us r.frames h.1 refl) }
close_faults r units rest _ b h = absurd h
