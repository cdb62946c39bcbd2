-- Steps of a reader: what they lead to, again with other units behind them, and what they refuse.
use Rattle.std.proofs.Common.{◌≡◌, ℕ, ◌+◌, ◌<◌, Bool, true, false, cond, List, [], ◌∷◌, ◌++◌, length, Option, Some, None, refl, sym, ap, subst, ◌∙◌, append_assoc, arith, nat_lt, ltb-true, ltb-false}
use Rattle.re_ast.specs.declared.patterns.Node.{Node}
use Rattle.re_ast.specs.declared.patterns.Node.TheVariants as node
use Rattle.re_parser.specs.Classes.{IsMembers, Lacks}
use Rattle.re_parser.specs.Pieces.{piece_at}
use Rattle.re_parser.specs.Grammar.{Begins, alt_of, assertion_node, atom_node, quantified, closed, begun}
use Rattle.js_units.specs.Answers.{Fails}
use Rattle.re_parser.specs.Reading.{Spot, Left, Whole, Same, Stuck, IsClassTurn, turned, closed_in, closed_by, is_memory, outer, with_term, with_bar, with_back, with_atom, opened_by, opened_at, with_class, are_bound}
use Rattle.re_parser.specs.declared.kinds.GroupKind.{GroupKind}
use Rattle.re_parser.specs.declared.kinds.GroupKind.TheVariants as group
use Rattle.re_parser.specs.declared.kinds.Atom.{Atom}
use Rattle.re_parser.specs.declared.kinds.Atom.TheVariants as atom
use Rattle.re_parser.specs.declared.kinds.Piece.{Piece}
use Rattle.re_parser.specs.declared.kinds.Piece.TheVariants as piece
use Rattle.re_parser.specs.declared.reader.Frame.{Frame}
use Rattle.re_parser.specs.declared.reader.Reader.{Reader}
use Rattle.re_parser.specs.declared.refusal.Fault.{Fault}
use Rattle.re_parser.specs.declared.refusal.Fault.TheVariants as fault
use Rattle.re_parser.specs.Agreement.{Agree}
use Rattle.re_parser.specs.Quantifiers.{quantifier_at}
use Rattle.re_parser.specs.Reading.{IsStep}
use Rattle.re_parser.specs.declared.kinds.Quantifier.{Quantifier}
use Rattle.re_parser.proofs.Numbers.{quantifier_cut}
use Rattle.re_parser.proofs.PieceCuts.{piece_cut}
use Rattle.re_parser.proofs.Agreeing.{agree_behind}
use Rattle.re_parser.proofs.ClassCuts.{members_cut}
use Rattle.re_parser.proofs.Steps.{assertion_same, bar_same, atom_same, class_same, open_same, close_same, open_stuck, close_stuck, bound_more, inner, all_of, piece_stuck, class_node}

-- ---- again

record Again (S : List ℕ → Spot) (rest : List ℕ) : Type 0 where
  part : List ℕ
  parts : rest ≡ part ++ (S rest).1
  again : (more : List ℕ) → Agree (S rest).1 more → S (part ++ more) ≡ ((S rest).0, more)

pub record NodeAgain (F : List ℕ → Node × List ℕ) (rest : List ℕ) : Type 0 where
  pub part : List ℕ
  pub parts : rest ≡ part ++ (F rest).1
  pub again : (more : List ℕ) → Agree (F rest).1 more → F (part ++ more) ≡ ((F rest).0, more)

pub quantified_again : (first : ℕ) (body : Node) (past : ℕ) (rest : List ℕ) → NodeAgain (λ (x : List ℕ). quantified first body past x) rest
unfolding quantified
quantified_again first body past rest = by (quantifier_at rest) refl
  where
    by : (o : Option (Quantifier × List ℕ)) → quantifier_at rest ≡ o → NodeAgain (λ (x : List ℕ). quantified first body past x) rest
    by None d = record {
      part = [];
      parts = rw d refl;
      again = rw d (λ more a. rw (a.quantifier [] d) refl);
    }
    by (Some q) d =
        let c = quantifier_cut rest q.0 q.1 d in
        record { part = c.part; parts = rw d c.parts; again = rw d (λ more a. rw (c.again more a) refl) }

pub closed_again : (kind : GroupKind) (first : ℕ) (body : Node) (past : ℕ) (rest : List ℕ) → NodeAgain (λ (x : List ℕ). closed kind first body past x) rest
unfolding closed
closed_again group.Capturing first body past rest = quantified_again first (node.Group first body) past rest
closed_again group.Plain first body past rest = quantified_again first body past rest
closed_again group.Ahead first body past rest = record { part = []; parts = refl; again = λ more a. refl }
closed_again group.NotAhead first body past rest = record { part = []; parts = refl; again = λ more a. refl }

term_again : (r : Reader) (F : List ℕ → Node × List ℕ) (rest : List ℕ) → NodeAgain F rest → Again (λ (x : List ℕ). with_term r (F x)) rest
term_again r F rest n = record { part = n.part; parts = n.parts; again = λ more a. ap (λ (x : Node × List ℕ). with_term r x) (n.again more a) }

here_again : (q : Reader) (rest : List ℕ) → Again (λ (x : List ℕ). (q, x)) rest
here_again q rest = record { part = []; parts = refl; again = λ more a. refl }

-- what a step reads behind its piece
record Ahead (r : Reader) (p : Piece) (rest : List ℕ) (s : Spot) : Type 0 where
  part : List ℕ
  parts : rest ≡ part ++ s.1
  same : (us more : List ℕ) → Agree s.1 more → Begins us p (part ++ more) → Same r us s.0 more

ahead_of : (r : Reader) (p : Piece) (rest : List ℕ) (S : List ℕ → Spot) → Again S rest → ((us vs : List ℕ) → Begins us p vs → Same r us (S vs).0 (S vs).1) → Ahead r p rest (S rest)
ahead_of r p rest S a same = record {
  part = a.part;
  parts = a.parts;
  same = λ us more g b. subst (λ (x : Spot). Same r us x.0 x.1) (a.again more g) (same us (a.part ++ more) b);
}

piece_step : (r : Reader) (units : List ℕ) (p : Piece) (rest : List ℕ) (s : Spot) → Begins units p rest → Ahead r p rest s → IsStep r units s
piece_step r units p rest s b a =
    let c = piece_cut units p rest b in
    record {
      part = c.part ++ a.part;
      parts = c.parts ∙ ap (λ (x : List ℕ). c.part ++ x) a.parts ∙ sym (append_assoc c.part a.part s.1);
      leads = λ more g.
          let agrees : Agree rest (a.part ++ more) = subst (λ (x : List ℕ). Agree x (a.part ++ more)) (sym a.parts) (agree_behind a.part s.1 more g) in
          let there = a.same (c.part ++ (a.part ++ more)) more g (c.again (a.part ++ more) agrees) in
          subst (λ (x : List ℕ). Same r x s.0 more) (sym (append_assoc c.part a.part more)) there;
    }

-- ---- each piece

-- where a backreference stands makes no difference
backs_left : (limit : Option ℕ) (r : Reader) (k m n : ℕ) → are_bound limit (with_back r (atom.Back k) m).backs ≡ are_bound limit (with_back r (atom.Back k) n).backs
backs_left limit r k m n = bound_more limit r.backs (record { number = k; left = m }) ∙ sym (bound_more limit r.backs (record { number = k; left = n }))

atom_left : (r : Reader) (a : Atom) (m n : ℕ) (x : Node × List ℕ) (w : Whole) → Left w (with_term (with_back r a m) x).0 x.1 → Left w (with_term (with_back r a n) x).0 x.1
atom_left r (atom.Back k) m n x w l = (sym (backs_left w.0 r k m n) ∙ l.0, l.1)
atom_left r _ m n x w l = l

atom_step : (r : Reader) (units rest : List ℕ) (a : Atom) → Begins units (piece.Atom a) rest → IsStep r units (with_atom r a units rest)
atom_step r units rest a b =
    piece_step r units (piece.Atom a) rest (with_atom r a units rest) b
    (ahead_of r (piece.Atom a) rest (λ (x : List ℕ). with_term (with_back r a (length units)) (quantified (r.groups + 1) (atom_node a) (r.groups + 1) x))
    (term_again (with_back r a (length units)) (λ (x : List ℕ). quantified (r.groups + 1) (atom_node a) (r.groups + 1) x) rest (quantified_again (r.groups + 1) (atom_node a) (r.groups + 1) rest))
    (λ us vs c w.
    let s = atom_same r us vs a c w in
    let x = quantified (r.groups + 1) (atom_node a) (r.groups + 1) vs in
    (λ l. atom_left r a (length us) (length units) x w (s.0 l), λ l. s.1 (atom_left r a (length units) (length us) x w l))))

class_step : (r : Reader) (units inside : List ℕ) (negated : Bool) (ranges : List (ℕ × ℕ)) (mid : List ℕ) → Begins units (piece.Class negated) inside → IsMembers inside ranges mid → IsStep r units (with_class r negated ranges mid)
class_step r units inside negated ranges mid b h =
    let m = members_cut inside ranges mid h in
    let q = term_again r (λ (x : List ℕ). quantified (r.groups + 1) (class_node negated ranges) (r.groups + 1) x) mid (quantified_again (r.groups + 1) (class_node negated ranges) (r.groups + 1) mid) in
    piece_step r units (piece.Class negated) inside (with_class r negated ranges mid) b (record {
      part = m.part ++ 93 ∷ q.part;
      parts = m.parts ∙ ap (λ (x : List ℕ). m.part ++ 93 ∷ x) q.parts ∙ sym (append_assoc m.part (93 ∷ q.part) (with_class r negated ranges mid).1);
      same = λ us more g c.
          let d = subst (λ (x : List ℕ). Begins us (piece.Class negated) x) (append_assoc m.part (93 ∷ q.part) more) c in
          let there = class_same r us (m.part ++ 93 ∷ (q.part ++ more)) negated ranges (q.part ++ more) d (m.again (q.part ++ more)) in
          subst (λ (x : Spot). Same r us x.0 x.1) (q.again more g) there;
    })

-- ---- what a step answers

step_is : (r : Reader) (units : List ℕ) (s t : Spot) → IsStep r units t → Some t ≡ Some s → IsStep r units s
step_is r units s t h e = let same : t ≡ s = cc in subst (λ (q : Spot). IsStep r units q) same h

pub fails_lacks : (T Y : Type 0) (read : Option Y) (e : Fault) → Fails (is_memory e) read None → (read ≡ None → T) → Lacks T e
fails_lacks T Y read fault.NoMemory h f = tt
fails_lacks T Y read (fault.Syntax left) h f = f h
fails_lacks T Y read (fault.BadEscape left) h f = f h
fails_lacks T Y read (fault.TooManyGroups left) h f = f h

pub lacks_map : (T S : Type 0) (e : Fault) → Lacks T e → (T → S) → Lacks S e
lacks_map T S fault.NoMemory h f = tt
lacks_map T S (fault.Syntax left) h f = f h
lacks_map T S (fault.BadEscape left) h f = f h
lacks_map T S (fault.TooManyGroups left) h f = f h

abbrev pub in_frames : Reader → List Frame → Reader
in_frames r fs = record { frames = fs; alternatives = r.alternatives; terms = r.terms; groups = r.groups; backs = r.backs }

close_some : (r : Reader) (fs : List Frame) (units rest : List ℕ) (s : Spot) → Begins units piece.Close rest → closed_by r fs rest ≡ Some s → IsStep (in_frames r fs) units s
close_some r [] units rest s b e = absurd cc
close_some r (f ∷ fs) units rest s b e =
    step_is (in_frames r (f ∷ fs)) units s (with_term (outer r f fs) (closed_in f (all_of r) r.groups rest))
    (piece_step (in_frames r (f ∷ fs)) units piece.Close rest (with_term (outer r f fs) (closed_in f (all_of r) r.groups rest)) b
    (ahead_of (in_frames r (f ∷ fs)) piece.Close rest (λ (x : List ℕ). with_term (outer r f fs) (closed_in f (all_of r) r.groups x))
    (term_again (outer r f fs) (λ (x : List ℕ). closed_in f (all_of r) r.groups x) rest (closed_again f.kind (f.before + 1) (alt_of (all_of r)) (r.groups + 1) rest))
    (λ us vs c. close_same r f fs us vs c)))
    e

close_none : (r : Reader) (fs : List Frame) (units rest : List ℕ) → Begins units piece.Close rest → closed_by r fs rest ≡ None → Stuck (in_frames r fs) units
close_none r [] units rest b e = close_stuck r units rest b
close_none r (f ∷ fs) units rest b e = absurd cc

open_some : (r : Reader) (units rest : List ℕ) (kind : GroupKind) (s : Spot) (x : Bool) (o : Option ℕ) → Begins units (piece.Open kind) rest → nat_lt (length r.frames) 100 ≡ x → begun kind r.groups ≡ o → opened_at (cond x (opened_by r kind o) None) rest ≡ Some s → IsStep r units s
open_some r units rest kind s true (Some within) b lt g e =
    step_is r units s (inner r kind within, rest)
    (piece_step r units (piece.Open kind) rest (inner r kind within, rest) b
    (ahead_of r (piece.Open kind) rest (λ (x : List ℕ). (inner r kind within, x)) (here_again (inner r kind within) rest) (λ us vs c. open_same r us vs kind within c (omega (arith, ltb-true)) g)))
    e
open_some r units rest kind s true None b lt g e = absurd cc
open_some r units rest kind s false o b lt g e = absurd cc

open_none : (r : Reader) (units rest : List ℕ) (kind : GroupKind) (x : Bool) (o : Option ℕ) → Begins units (piece.Open kind) rest → nat_lt (length r.frames) 100 ≡ x → begun kind r.groups ≡ o → opened_at (cond x (opened_by r kind o) None) rest ≡ None → Stuck r units
open_none r units rest kind true (Some within) b lt g e = absurd cc
open_none r units rest kind true None b lt g e = open_stuck r units rest kind b (λ less within some. let never : Some within ≡ None = sym some ∙ g in absurd cc)
open_none r units rest kind false o b lt g e = open_stuck r units rest kind b (λ less within some. absurd (omega (arith, ltb-false)))

pub turned_some : (r : Reader) (units : List ℕ) (p : Piece) (rest : List ℕ) (s : Spot) → Begins units p rest → turned r units p rest ≡ Some s → IsStep r units s
turned_some r units piece.Bar rest s b e =
    step_is r units s (with_bar r, rest) (piece_step r units piece.Bar rest (with_bar r, rest) b (ahead_of r piece.Bar rest (λ (x : List ℕ). (with_bar r, x)) (here_again (with_bar r) rest) (λ us vs c. bar_same r us vs c))) e
turned_some r units piece.Close rest s b e = close_some r r.frames units rest s b e
turned_some r units (piece.Open kind) rest s b e = open_some r units rest kind s (nat_lt (length r.frames) 100) (begun kind r.groups) b refl refl e
turned_some r units (piece.Assertion a) rest s b e =
    step_is r units s (with_term r (assertion_node a, rest)) (piece_step r units (piece.Assertion a) rest (with_term r (assertion_node a, rest)) b (ahead_of r (piece.Assertion a) rest (λ (x : List ℕ). with_term r (assertion_node a, x)) (here_again (with_term r (assertion_node a, rest)).0 rest) (λ us vs c. assertion_same r us vs a c))) e
turned_some r units (piece.Atom a) rest s b e = step_is r units s (with_atom r a units rest) (atom_step r units rest a b) e
turned_some r units (piece.Class negated) rest s b e = absurd cc

abbrev pub is_class : Piece → Bool
is_class (piece.Class negated) = true
is_class _ = false

pub turned_none : (r : Reader) (units : List ℕ) (p : Piece) (rest : List ℕ) → is_class p ≡ false → Begins units p rest → turned r units p rest ≡ None → Stuck r units
turned_none r units piece.Bar rest c b e = absurd cc
turned_none r units piece.Close rest c b e = close_none r r.frames units rest b e
turned_none r units (piece.Open kind) rest c b e = open_none r units rest kind (nat_lt (length r.frames) 100) (begun kind r.groups) b refl refl e
turned_none r units (piece.Assertion a) rest c b e = absurd cc
turned_none r units (piece.Atom a) rest c b e = absurd cc
turned_none r units (piece.Class negated) rest c b e = absurd cc

pub class_ok : (r : Reader) (units : List ℕ) (negated : Bool) (rest : List ℕ) (s : Spot) → Begins units (piece.Class negated) rest → IsClassTurn r negated rest s → IsStep r units s
class_ok r units negated rest s b h = subst (λ (q : Spot). IsStep r units q) (sym h.is) (class_step r units rest negated h.ranges h.mid b h.members)

pub none_stuck : (r : Reader) (units : List ℕ) → 0 < length units → piece_at units ≡ None → Stuck r units
none_stuck r [] h e = absurd (omega arith)
none_stuck r (u ∷ us) h e = piece_stuck r u us e
