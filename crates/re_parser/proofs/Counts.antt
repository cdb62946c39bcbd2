-- A body that has a shape has one number of groups, and one first backreference to none of them.
use Rattle.std.proofs.Common.{◌≡◌, ℕ, zero, suc, ◌+◌, ◌<◌, ◌≤◌, Bool, true, false, cond, List, [], ◌∷◌, ◌++◌, length, Option, Some, None, refl, sym, ap, subst, ◌∙◌, append_assoc, arith}
use Rattle.std.specs.Prelude.{nat_lt}
use Rattle.std.specs.List.{list_all}
use Rattle.std.proofs.lemmas.Bool.{and_parts, ltb-true, ltb-false}
use Rattle.std.proofs.lemmas.List.{append-nil, length-append}
use Rattle.re_ast.specs.declared.patterns.Node.{Node}
use Rattle.js_units.specs.Characters.{is_digit}
use Rattle.re_parser.specs.Escapes.{starts}
use Rattle.re_parser.specs.Quantifiers.{digits_from}
use Rattle.re_parser.specs.Pieces.{piece_at}
use Rattle.re_parser.specs.Grammar.{Begins, alt_of, assertion_node, atom_node, quantified, begun, IsDisjunction, HasShape}
use Rattle.re_parser.specs.Places.{ViableWithin, IsUnbound}
use Rattle.re_parser.specs.Reading.{Spot, Left, Whole, Same, with_bar, with_term, with_atom, with_class, closed_in, closed_by, opened_by, opened_at, outer, turned, start}
use Rattle.re_parser.specs.declared.kinds.GroupKind.{GroupKind}
use Rattle.re_parser.specs.declared.kinds.Piece.{Piece}
use Rattle.re_parser.specs.declared.kinds.Piece.TheVariants as piece
use Rattle.re_parser.specs.declared.reader.Frame.{Frame}
use Rattle.re_parser.specs.declared.reader.Reader.{Reader}
use Rattle.re_parser.proofs.ClassCuts.{members_cut}
use Rattle.re_parser.proofs.Goings.{closers_agree}
use Rattle.re_parser.proofs.Lifts.{step_same}
use Rattle.re_parser.proofs.Numbers.{is_inner, digits_cut}
use Rattle.re_parser.proofs.PieceCuts.{piece_cut}
use Rattle.re_parser.proofs.Reaches.{reach, further}
use Rattle.re_parser.proofs.Steps.{all_of, class_in, class_node, class_same, goes_term, inner, piece_stuck}
use Rattle.re_parser.proofs.Turns.{in_frames, is_class, quantified_again, closed_again, turned_some, turned_none}
use Rattle.re_parser.proofs.Wholes.{ends_now, no_piece, shape_left}

-- ---- a step goes on

piece_shorter : (units : List ℕ) (p : Piece) (rest : List ℕ) → Begins units p rest → length rest < length units
piece_shorter units p rest b =
    let c = piece_cut units p rest b in
    by c.part c.parts (c.again [] (closers_agree rest []))
  where
    by : (part : List ℕ) → units ≡ part ++ rest → Begins (part ++ []) p [] → length rest < length units
    by [] e d = absurd (no_piece p [] d)
    by (u ∷ part) e d = omega (arith, ap length e, length-append part rest)

quantified_rest : (first : ℕ) (body : Node) (past : ℕ) (rest : List ℕ) → length (quantified first body past rest).1 ≤ length rest
quantified_rest first body past rest = let a = quantified_again first body past rest in omega (arith, ap length a.parts, length-append a.part (quantified first body past rest).1)

closed_rest : (f : Frame) (nodes : List Node) (after : ℕ) (rest : List ℕ) → length (closed_in f nodes after rest).1 ≤ length rest
closed_rest f nodes after rest = let a = closed_again f.kind (f.before + 1) (alt_of nodes) (after + 1) rest in omega (arith, ap length a.parts, length-append a.part (closed_in f nodes after rest).1)

spot_rest : (s t : Spot) → Some t ≡ Some s → length s.1 ≡ length t.1
spot_rest s t e = let same : t ≡ s = cc in ap (λ (x : Spot). length x.1) (sym same)

close_rest : (r : Reader) (fs : List Frame) (rest : List ℕ) (s : Spot) → closed_by r fs rest ≡ Some s → length s.1 ≤ length rest
close_rest r [] rest s e = absurd cc
close_rest r (f ∷ fs) rest s e = omega (arith, spot_rest s (with_term (outer r f fs) (closed_in f (all_of r) r.groups rest)) e, closed_rest f (all_of r) r.groups rest)

open_rest : (r : Reader) (rest : List ℕ) (kind : GroupKind) (s : Spot) (x : Bool) (o : Option ℕ) → opened_at (cond x (opened_by r kind o) None) rest ≡ Some s → length s.1 ≤ length rest
open_rest r rest kind s true (Some within) e = omega (arith, spot_rest s (inner r kind within, rest) e)
open_rest r rest kind s true None e = absurd cc
open_rest r rest kind s false o e = absurd cc

turned_rest : (r : Reader) (units : List ℕ) (p : Piece) (rest : List ℕ) (s : Spot) → turned r units p rest ≡ Some s → length s.1 ≤ length rest
turned_rest r units piece.Bar rest s e = omega (arith, spot_rest s (with_bar r, rest) e)
turned_rest r units piece.Close rest s e = close_rest r r.frames rest s e
turned_rest r units (piece.Open kind) rest s e = open_rest r rest kind s (nat_lt (length r.frames) 100) (begun kind r.groups) e
turned_rest r units (piece.Assertion a) rest s e = omega (arith, spot_rest s (with_term r (assertion_node a, rest)) e)
turned_rest r units (piece.Atom a) rest s e = omega (arith, spot_rest s (with_atom r a units rest) e, quantified_rest (r.groups + 1) (atom_node a) (r.groups + 1) rest)
turned_rest r units (piece.Class negated) rest s e = absurd cc

-- ---- one number of groups

end_count : (r : Reader) (fs : List Frame) (w : Whole) → Left w (in_frames r fs) [] → r.groups ≡ w.1
end_count r [] w l = (ends_now w r [] l).1
end_count r (f ∷ fs) w l = let e = ends_now w r (f ∷ fs) l in absurd (no_piece piece.Close e.0 e.1)

-- from readers in front of at most so many units
abbrev OneCount : ℕ → Type 0
OneCount n = (r : Reader) (units : List ℕ) → length units ≤ n → (g h : ℕ) (x y : Node) → Left (None, g, x) r units → Left (None, h, y) r units → g ≡ h

step_count : (n : ℕ) → OneCount n → (r q : Reader) (units rest : List ℕ) → Same r units q rest → length rest ≤ n → (g h : ℕ) (x y : Node) → Left (None, g, x) r units → Left (None, h, y) r units → g ≡ h
step_count n k r q units rest f le g h x y a b = k q rest le g h x y ((f (None, g, x)).0 a) ((f (None, h, y)).0 b)

class_count : (n : ℕ) → OneCount n → (r : Reader) (units inside : List ℕ) (negated : Bool) → Begins units (piece.Class negated) inside → length units ≤ suc n → (g h : ℕ) (x y : Node) → Left (None, g, x) r units → Left (None, h, y) r units → g ≡ h
class_count n k r units inside negated b le g h x y l m =
    let t = goes_term (None, g, x) (length r.frames) r.frames r.alternatives r.terms r.groups units (piece.Class negated) inside l.1 b refl in
    let i = class_in None (length r.frames) r.groups units t.term t.mid t.next t.is negated inside b (λ n mid next. Unit {0}) tt in
    let c = members_cut inside i.0 i.1 i.2 in
    step_count n k r (with_class r negated i.0 i.1).0 units (with_class r negated i.0 i.1).1 (class_same r units inside negated i.0 i.1 b i.2)
    (omega (arith, le, piece_shorter units (piece.Class negated) inside b, ap length c.parts, length-append c.part (93 ∷ i.1), quantified_rest (r.groups + 1) (class_node negated i.0) (r.groups + 1) i.1)) g h x y l m

turn_count : (n : ℕ) → OneCount n → (r : Reader) (units : List ℕ) (p : Piece) (rest : List ℕ) (o : Option Spot) → is_class p ≡ false → Begins units p rest → turned r units p rest ≡ o → length units ≤ suc n → (g h : ℕ) (x y : Node) → Left (None, g, x) r units → Left (None, h, y) r units → g ≡ h
turn_count n k r units p rest None c b e le g h x y l m = absurd (turned_none r units p rest c b e (None, g, x) l)
turn_count n k r units p rest (Some s) c b e le g h x y l m =
    step_count n k r s.0 units s.1 (step_same r s.0 units s.1 (turned_some r units p rest s b e)) (omega (arith, le, piece_shorter units p rest b, turned_rest r units p rest s e)) g h x y l m

piece_count : (n : ℕ) → OneCount n → (r : Reader) (units : List ℕ) (p : Piece) (rest : List ℕ) → Begins units p rest → length units ≤ suc n → (g h : ℕ) (x y : Node) → Left (None, g, x) r units → Left (None, h, y) r units → g ≡ h
piece_count n k r units (piece.Class negated) rest b = class_count n k r units rest negated b
piece_count n k r units piece.Bar rest b = turn_count n k r units piece.Bar rest (turned r units piece.Bar rest) refl b refl
piece_count n k r units piece.Close rest b = turn_count n k r units piece.Close rest (turned r units piece.Close rest) refl b refl
piece_count n k r units (piece.Open kind) rest b = turn_count n k r units (piece.Open kind) rest (turned r units (piece.Open kind) rest) refl b refl
piece_count n k r units (piece.Assertion a) rest b = turn_count n k r units (piece.Assertion a) rest (turned r units (piece.Assertion a) rest) refl b refl
piece_count n k r units (piece.Atom a) rest b = turn_count n k r units (piece.Atom a) rest (turned r units (piece.Atom a) rest) refl b refl

one_count : (n : ℕ) → OneCount n
one_count n r [] le g h x y l m = sym (end_count r r.frames (None, g, x) l) ∙ end_count r r.frames (None, h, y) m
one_count zero r (u ∷ us) le g h x y l m = absurd (omega (arith, le))
one_count (suc n) r (u ∷ us) le g h x y l m = by (piece_at (u ∷ us)) refl (one_count n)
  where
    by : (o : Option (Piece × List ℕ)) → piece_at (u ∷ us) ≡ o → OneCount n → g ≡ h
    by None e k = absurd (piece_stuck r u us e (None, g, x) l)
    by (Some p) e k = piece_count n k r (u ∷ us) p.0 p.1 e le g h x y l m

pub one_shape : (body : List ℕ) (s t : HasShape body) → s.groups ≡ t.groups
one_shape body s t = one_count (length body) start body (omega arith) s.groups t.groups (alt_of s.nodes) (alt_of t.nodes) (shape_left body None s.nodes s.groups s.disjunction) (shape_left body None t.nodes t.groups t.disjunction)

-- ---- one first backreference to no group

within_front : (most : ℕ) (a b : List ℕ) → ViableWithin most (a ++ b) → ViableWithin most a
within_front most a b (more, nodes, groups, d) = (b ++ more, nodes, groups, subst (λ (q : List ℕ). IsDisjunction (Some most) 0 0 q nodes groups []) (append_assoc a b more) d)

no_inner : is_inner 92 ≡ false
unfolding is_digit
no_inner = refl

inner_unit : (part : List ℕ) (u : ℕ) (more : List ℕ) → list_all is_inner (part ++ u ∷ more) ≡ true → is_inner u ≡ true
inner_unit [] u more e = (and_parts (is_inner u) (list_all is_inner more) e).0
inner_unit (v ∷ part) u more e = inner_unit part u more (and_parts (is_inner v) (list_all is_inner (part ++ u ∷ more)) e).1

-- the digits of a number are units that no `\` is among
number_digits : (digits behind : List ℕ) (n : ℕ) → digits_from 0 (digits ++ behind) ≡ (n, behind) → list_all is_inner digits ≡ true
number_digits digits behind n e =
    let c = digits_cut (λ a b. (starts is_digit a ≡ false → starts is_digit b ≡ false)) (λ a b k. k) (digits ++ behind) 0 n behind e in
    let r = reach digits behind c.part behind c.parts (omega (arith, ap length c.parts, length-append digits behind, length-append c.part behind)) in
    by r.part r.front (omega (arith, ap length r.rest, length-append r.part behind)) c.counts
  where
    by : {part : List ℕ} (more : List ℕ) → part ≡ digits ++ more → length more ≡ 0 → list_all is_inner part ≡ true → list_all is_inner digits ≡ true
    by [] e n h = subst (λ (q : List ℕ). list_all is_inner q ≡ true) (e ∙ append-nil digits) h
    by (u ∷ more) e n h = absurd (omega (arith, n))

pub unbound_before : (body f rest g others : List ℕ) → IsUnbound body f rest → IsUnbound body g others → f ++ rest ≡ g ++ others → length f < length g → ⊥
unbound_before body f rest g others x y e h =
    let r = further f 92 (x.digits ++ x.behind) g others (ap (λ (q : List ℕ). f ++ q) (sym x.is) ∙ e) h in
    by r.part r.front r.rest (nat_lt (length r.part) (length x.digits)) refl
  where
    by : (part : List ℕ) → g ≡ (f ++ 92 ∷ []) ++ part → x.digits ++ x.behind ≡ part ++ others → (c : Bool) → nat_lt (length part) (length x.digits) ≡ c → ⊥
    by part p d true k =
        let q = further part 92 (y.digits ++ y.behind) x.digits x.behind (ap (λ (v : List ℕ). part ++ v) (sym y.is) ∙ sym d) (ltb-true (length part) (length x.digits) k) in
        let inside : list_all is_inner (part ++ 92 ∷ q.part) ≡ true = subst (λ (v : List ℕ). list_all is_inner v ≡ true) (q.front ∙ append_assoc part (92 ∷ []) q.part) (number_digits x.digits x.behind x.number x.counts) in
        let never : false ≡ true = sym no_inner ∙ inner_unit part 92 q.part inside in
        cc
    by part p d false k =
        let q = reach x.digits x.behind part others d (ltb-false (length part) (length x.digits) k) in
        let there : g ≡ (f ++ 92 ∷ x.digits) ++ q.part = p ∙ ap (λ (v : List ℕ). (f ++ 92 ∷ []) ++ v) q.front ∙ append_assoc f (92 ∷ []) (x.digits ++ q.part) ∙ sym (append_assoc f (92 ∷ x.digits) q.part) in
        let before : ViableWithin y.shape.groups (f ++ 92 ∷ x.digits) = within_front y.shape.groups (f ++ 92 ∷ x.digits) q.part (subst (λ (v : List ℕ). ViableWithin y.shape.groups v) there y.before) in
        x.there (subst (λ (n : ℕ). ViableWithin n (f ++ 92 ∷ x.digits)) (one_shape body y.shape x.shape) before)
