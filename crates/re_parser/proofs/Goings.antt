-- What goes on from every reader: it may be closed.
use Rattle.std.proofs.Common.{◌≡◌, ℕ, ◌+◌, true, false, List, [], ◌∷◌, ◌++◌, length, Option, Some, None, refl, sym, ap, subst, arith, inl}
use Rattle.re_ast.specs.declared.patterns.Node.{Node}
use Rattle.re_ast.specs.declared.patterns.Node.TheVariants as node
use Rattle.re_parser.specs.Agreement.{Agree}
use Rattle.js_units.specs.Characters.{is_digit}
use Rattle.re_parser.specs.Escapes.{starts}
use Rattle.re_parser.specs.Quantifiers.{quantifier_at}
use Rattle.re_parser.specs.Pieces.{piece_at, plain_at}
use Rattle.re_parser.specs.Grammar.{Begins, seq_of, alt_of, atom_node, quantified, closed}
use Rattle.re_parser.specs.Places.{IsMarkDue, IsSyntax}
use Rattle.re_parser.specs.Reading.{Goes, Ends, Left, Whole, GoesOn, StopsAt, closed_in, with_term, are_bound}
use Rattle.re_parser.specs.declared.kinds.GroupKind.{GroupKind}
use Rattle.re_parser.specs.declared.kinds.GroupKind.TheVariants as group
use Rattle.re_parser.specs.declared.kinds.Atom.TheVariants as atom
use Rattle.re_parser.specs.declared.kinds.Piece.TheVariants as piece
use Rattle.re_parser.specs.declared.reader.Frame.{Frame}
use Rattle.re_parser.specs.declared.reader.Reader.{Reader}
use Rattle.re_parser.specs.declared.reader.Backreference.{Backreference}
use Rattle.re_parser.proofs.Agreeing.{agree_end}
use Rattle.re_parser.proofs.Steps.{goes_none, atom_same}

-- a `)` for each open group
abbrev pub closers : List Frame → List ℕ
closers [] = []
closers (f ∷ fs) = 41 ∷ closers fs

pub closers_none : (fs : List Frame) → quantifier_at (closers fs) ≡ None
unfolding quantifier_at
closers_none [] = refl
closers_none (f ∷ fs) = refl

abbrev final : List Frame → List Node → List Node → ℕ → Node
final [] alternatives terms groups = alt_of (alternatives ++ seq_of terms ∷ [])
final (f ∷ fs) alternatives terms groups = final fs f.alternatives (f.terms ++ (closed_in f (alternatives ++ seq_of terms ∷ []) groups (closers fs)).0 ∷ []) groups

pub quantified_rest : (first : ℕ) (body : Node) (past : ℕ) (units : List ℕ) → quantifier_at units ≡ None → quantified first body past units ≡ (body, units)
unfolding quantified
quantified_rest first body past units e = rw e refl

closed_rest : (kind : GroupKind) (first : ℕ) (body : Node) (past : ℕ) (units : List ℕ) → quantifier_at units ≡ None → (closed kind first body past units).1 ≡ units
unfolding closed
closed_rest group.Capturing first body past units e = ap (λ (x : Node × List ℕ). x.1) (quantified_rest first (node.Group first body) past units e)
closed_rest group.Plain first body past units e = ap (λ (x : Node × List ℕ). x.1) (quantified_rest first body past units e)
closed_rest group.Ahead first body past units e = refl
closed_rest group.NotAhead first body past units e = refl

begins_close : (rest : List ℕ) → Begins (41 ∷ rest) piece.Close rest
unfolding piece_at plain_at
begins_close rest = refl

closers_go : (limit : Option ℕ) (fs : List Frame) (alternatives terms : List Node) (groups : ℕ) → Goes limit (length fs) (Ends (limit, groups, final fs alternatives terms groups) fs) alternatives terms groups (closers fs)
closers_go limit [] alternatives terms groups = goes_none limit 0 (Ends (limit, groups, final [] alternatives terms groups) []) alternatives terms groups [] (inl (refl, refl, refl))
closers_go limit (f ∷ fs) alternatives terms groups =
    let nodes : List Node = alternatives ++ seq_of terms ∷ [] in
    let more : List Node = f.terms ++ (closed_in f nodes groups (closers fs)).0 ∷ [] in
    let w : Whole = (limit, groups, final fs f.alternatives more groups) in
    let rest = closed_rest f.kind (f.before + 1) (alt_of nodes) (groups + 1) (closers fs) (closers_none fs) in
    goes_none limit (length (f ∷ fs)) (Ends w (f ∷ fs)) alternatives terms groups (41 ∷ closers fs)
    (inl (closers fs, begins_close (closers fs), subst (λ (x : List ℕ). Goes limit (length fs) (Ends w fs) f.alternatives more groups x) (sym rest) (closers_go limit fs f.alternatives more groups)))

unlimited : (backs : List Backreference) → are_bound None backs ≡ true
unlimited [] = refl
unlimited (b ∷ backs) = unlimited backs

abbrev pub closed_node : Reader → Node
closed_node r = final r.frames r.alternatives r.terms r.groups

pub reader_closes : (r : Reader) → Left (None, r.groups, closed_node r) r (closers r.frames)
reader_closes r = (unlimited r.backs, closers_go None r.frames r.alternatives r.terms r.groups)

pub bound_closes : (r : Reader) (most : ℕ) → are_bound (Some most) r.backs ≡ true → Left (Some most, r.groups, closed_node r) r (closers r.frames)
bound_closes r most e = (e, closers_go (Some most) r.frames r.alternatives r.terms r.groups)

pub closers_agree : (units : List ℕ) (fs : List Frame) → Agree units (closers fs)
unfolding is_digit
closers_agree units [] = agree_end units [] refl refl refl refl (closers_none [])
closers_agree units (f ∷ fs) = agree_end units (41 ∷ closers fs) refl refl refl refl (closers_none (f ∷ fs))

-- a unit that stands for itself
pub unit_goes : (r : Reader) (u : ℕ) (more : List ℕ) (w : Whole) → Begins (u ∷ more) (piece.Atom (atom.Unit u)) more → quantifier_at more ≡ None → Left w (with_term r (atom_node (atom.Unit u), more)).0 more → Left w r (u ∷ more)
unit_goes r u more w b e l =
    (atom_same r (u ∷ more) more (atom.Unit u) b w).1
    (subst (λ (x : Node × List ℕ). Left w (with_term r x).0 x.1) (sym (quantified_rest (r.groups + 1) (atom_node (atom.Unit u)) (r.groups + 1) more e)) l)

outside_none : (more : List ℕ) → quantifier_at (128 ∷ more) ≡ None
unfolding quantifier_at
outside_none more = refl

begins_outside : (more : List ℕ) → Begins (128 ∷ more) (piece.Atom (atom.Unit 128)) more
unfolding piece_at plain_at
begins_outside more = refl

outside_agree : (units more : List ℕ) → Agree units (128 ∷ more)
unfolding is_digit
outside_agree units more = agree_end units (128 ∷ more) refl refl refl refl (outside_none more)

pub closes_on : (r : Reader) (units : List ℕ) → GoesOn r units []
closes_on r units = record { more = closers r.frames; agrees = closers_agree units r.frames; groups = r.groups; node = closed_node r; leads = reader_closes r }

-- a unit outside of ASCII, and the end
pub outside_goes : (r : Reader) → Left (None, r.groups, closed_node (with_term r (atom_node (atom.Unit 128), [])).0) r (128 ∷ closers r.frames)
outside_goes r = unit_goes r 128 (closers r.frames) (None, r.groups, closed_node (with_term r (atom_node (atom.Unit 128), [])).0) (begins_outside (closers r.frames)) (closers_none r.frames) (reader_closes (with_term r (atom_node (atom.Unit 128), [])).0)

pub finished_on : (r : Reader) (units : List ℕ) → GoesOn r units (128 ∷ [])
finished_on r units = record {
  more = closers r.frames;
  agrees = outside_agree units (closers r.frames);
  groups = r.groups;
  node = closed_node (with_term r (atom_node (atom.Unit 128), [])).0;
  leads = outside_goes r;
}

-- units of which the first is refused
pub refused_here : (r : Reader) (units : List ℕ) → starts is_digit units ≡ false → ((u : ℕ) (behind : List ℕ) → units ≡ u ∷ behind → StopsAt r units (u ∷ [])) → IsSyntax (GoesOn r units) (StopsAt r units) (IsMarkDue (StopsAt r units)) [] units
refused_here r units n h = record { before = closes_on r units; there = h; reason = inl (128, omega arith, finished_on r units, inl n) }
