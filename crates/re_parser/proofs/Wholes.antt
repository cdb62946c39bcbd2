-- Whole patterns: what is spelt leads on from the start, and what was read to the end is the one whole.
use Rattle.std.proofs.Common.{◌≡◌, ℕ, zero, suc, ◌<◌, ◌≤◌, true, false, List, [], ◌∷◌, length, Option, Some, None, refl, sym, ap, subst, ◌∙◌, arith, inl, inr}
use Rattle.std.specs.Prelude.{Result, Ok, Err, take}
use Rattle.re_ast.specs.declared.patterns.Node.{Node}
use Rattle.re_ast.specs.declared.patterns.Flags.{Flags}
use Rattle.re_ast.specs.declared.patterns.Pattern.{Pattern}
use Rattle.re_parser.specs.Pieces.{piece_at}
use Rattle.re_parser.specs.Classes.{Lacks}
use Rattle.re_parser.specs.Grammar.{Begins, alt_of, IsDisjunction, Spells, HasShape}
use Rattle.re_parser.specs.Flags.{flags_of, flags_from, flags_by, with_flag, no_flags, IsBadFlag}
use Rattle.re_parser.specs.Reading.{Ends, Left, Whole, Same, Stuck, are_bound, bound, start, whole_of}
use Rattle.re_parser.specs.Answers.{Answered, FlagsAnswer, IsRefusal, Kinds, Unbound, OnlyWhole, LeadsTo}
use Rattle.re_parser.specs.declared.kinds.Piece.{Piece}
use Rattle.re_parser.specs.declared.kinds.Piece.TheVariants as piece
use Rattle.re_parser.specs.declared.reader.Frame.{Frame}
use Rattle.re_parser.specs.declared.reader.Reader.{Reader}
use Rattle.re_parser.specs.declared.reader.Backreference.{Backreference}
use Rattle.re_parser.specs.declared.refusal.Fault.{Fault}
use Rattle.re_parser.specs.declared.refusal.Fault.TheVariants as fault
use Rattle.re_parser.specs.declared.refusal.PatternRefusal.{PatternRefusal}
use Rattle.re_parser.specs.declared.refusal.PatternRefusal.TheVariants as refusal
use Rattle.re_parser.proofs.Leading.{goes_on}
use Rattle.re_parser.proofs.Steps.{term_begins, resumed, disjunction_goes, all_of, goes_none}
use Rattle.re_parser.proofs.Turns.{lacks_map, in_frames}

-- ---- readings one after another

pub same_start : (units : List ℕ) → Same start units start units
same_start units w = (λ l. l, λ l. l)

pub same_both : (r q s : Reader) (a b c : List ℕ) → Same r a q b → Same q b s c → Same r a s c
same_both r q s a b c f g w = (λ l. (g w).0 ((f w).0 l), λ l. (f w).1 ((g w).1 l))

pub stuck_before : (r q : Reader) (a b : List ℕ) (e : Fault) → Same r a q b → Lacks (Stuck q b) e → Lacks (Stuck r a) e
stuck_before r q a b e f h = lacks_map (Stuck q b) (Stuck r a) e h (λ g w l. g w ((f w).0 l))

-- ---- the end of the units

pub none_left : (units : List ℕ) → length units ≡ 0 → units ≡ []
none_left [] h = refl
none_left (u ∷ us) h = absurd (omega arith)

pub no_piece : (p : Piece) (rest : List ℕ) → Begins [] p rest → ⊥
unfolding piece_at
no_piece p rest b = absurd cc

-- nothing goes on
pub ends_now : (w : Whole) (r : Reader) (fs : List Frame) → Left w (in_frames r fs) [] → Ends w fs (all_of r) r.groups []
ends_now w r fs l =
    elim (goes_on w.0 (length fs) (Ends w fs) r.alternatives r.terms r.groups [] l.1) [
      | inl t ↦ absurd (let f = term_begins w.0 (length fs) r.groups [] t.term t.mid t.next t.is in no_piece f.0 f.1 f.2)
      | inr (inl e) ↦ e
      | inr (inr m) ↦ absurd (no_piece piece.Bar m.0 m.4)
    ]

frames_left : (r : Reader) (fs : List Frame) → 0 < length fs → Stuck (in_frames r fs) []
frames_left r [] h w l = absurd (omega arith)
frames_left r (f ∷ fs) h w l = let e = ends_now w r (f ∷ fs) l in no_piece piece.Close e.0 e.1

pub frames_stuck : (r : Reader) → 0 < length r.frames → Stuck r []
frames_stuck r h = frames_left r r.frames h

abbrev pub pair : ℕ → Node → ℕ × Node
pair groups n = (groups, n)

same_pair : (a b : ℕ) (n m : Node) → a ≡ b → n ≡ m → pair a n ≡ pair b m
same_pair a b n m e f = ap (λ (q : ℕ). pair q n) e ∙ ap (λ (q : Node). pair b q) f

only_whole : (r : Reader) (fs : List Frame) → length fs ≤ 0 → (w : Whole) → Left w (in_frames r fs) [] → (r.groups ≡ w.1) × (alt_of (all_of r) ≡ w.2)
only_whole r [] h w l = let e = ends_now w r [] l in (e.1, e.2)
only_whole r (f ∷ fs) h w l = absurd (omega arith)

whole_in : (r : Reader) (fs : List Frame) (limit : Option ℕ) → length fs ≤ 0 → are_bound limit r.backs ≡ true → Left (limit, r.groups, alt_of (all_of r)) (in_frames r fs) []
whole_in r [] limit h b = (b, goes_none limit 0 (Ends (limit, r.groups, alt_of (all_of r)) []) r.alternatives r.terms r.groups [] (inl (refl, refl, refl)))
whole_in r (f ∷ fs) limit h b = absurd (omega arith)

pub leads_whole : (r : Reader) (x : Node × ℕ) → length r.frames ≤ 0 → are_bound (Some r.groups) r.backs ≡ true → Some (whole_of r) ≡ Some (pair x.1 x.0) → LeadsTo r [] (Ok x)
leads_whole r x h b e =
    let same : whole_of r ≡ pair x.1 x.0 = cc in
    subst (λ (q : ℕ × Node). OnlyWhole r [] q) same (whole_in r r.frames (Some r.groups) h b, λ groups n l. let o = only_whole r r.frames h (bound groups n) l in same_pair r.groups groups (alt_of (all_of r)) n o.0 o.1)

all_bound : (backs : List Backreference) → are_bound None backs ≡ true
all_bound [] = refl
all_bound (b ∷ backs) = all_bound backs

pub unbound_leads : (r : Reader) → length r.frames ≤ 0 → are_bound (Some r.groups) r.backs ≡ false → Unbound r []
unbound_leads r h b = (apart, (r.groups, alt_of (all_of r), whole_in r r.frames None h (all_bound r.backs)))
  where
    apart : (groups : ℕ) (n : Node) → Left (bound groups n) r [] → ⊥
    apart groups n l =
        let o = only_whole r r.frames h (bound groups n) l in
        let all : are_bound (Some r.groups) r.backs ≡ true = subst (λ (x : ℕ). are_bound (Some x) r.backs ≡ true) (sym o.0) l.0 in
        absurd cc

-- ---- from the start

pub refuses : (n : ℕ) (r : Reader) (units : List ℕ) (e : Fault) (f : PatternRefusal) → IsRefusal n e f → Lacks (Stuck r units) e → LeadsTo r units (Err f)
refuses n r units fault.NoMemory refusal.NoMemory h l = tt
refuses n r units (fault.Syntax left) (refusal.Syntax at) h l = l
refuses n r units (fault.BadEscape left) (refusal.BadEscape at) h l = l
refuses n r units (fault.TooManyGroups left) (refusal.TooManyGroups at) h l = l
refuses n r units _ _ h l = absurd h

stuck_on : (r q : Reader) (a b : List ℕ) → Same r a q b → Stuck q b → Stuck r a
stuck_on r q a b f g w l = g w ((f w).0 l)

pub leads_on : (r q : Reader) (a b : List ℕ) (answer : Result (Node × ℕ) PatternRefusal) → Same r a q b → LeadsTo q b answer → LeadsTo r a answer
leads_on r q a b (Ok x) f h = ((f (bound x.1 x.0)).1 h.0, λ groups n l. h.1 groups n ((f (bound groups n)).0 l))
leads_on r q a b (Err refusal.NoMemory) f h = tt
leads_on r q a b (Err (refusal.Flags at)) f h = h
leads_on r q a b (Err (refusal.BackrefRange at)) f h = (λ groups n l. h.0 groups n ((f (bound groups n)).0 l), (h.1.0, h.1.1, (f (None, h.1.0, h.1.1)).1 h.1.2))
leads_on r q a b (Err (refusal.Syntax at)) f h = stuck_on r q a b f h
leads_on r q a b (Err (refusal.BadEscape at)) f h = stuck_on r q a b f h
leads_on r q a b (Err (refusal.TooManyGroups at)) f h = stuck_on r q a b f h

-- ---- what is spelt

pub shape_left : (body : List ℕ) (limit : Option ℕ) (nodes : List Node) (groups : ℕ) → IsDisjunction limit 0 0 body nodes groups [] → Left (limit, groups, alt_of nodes) start body
shape_left body limit nodes groups d = (refl, disjunction_goes limit 0 0 body nodes groups [] d (Ends (limit, groups, alt_of nodes) []) [] (refl, refl, refl))

pub record Spelt (body : List ℕ) (limit : Option ℕ) (groups : ℕ) (n : Node) : Type 0 where
  pub nodes : List Node
  pub disjunction : IsDisjunction limit 0 0 body nodes groups []
  pub node_is : alt_of nodes ≡ n

pub left_shape : (body : List ℕ) (limit : Option ℕ) (groups : ℕ) (n : Node) → Left (limit, groups, n) start body → Spelt body limit groups n
left_shape body limit groups n l =
    let d = resumed limit 0 (Ends (limit, groups, n) []) [] 0 body l.1 in
    record {
      nodes = d.nodes;
      disjunction = subst (λ (x : ℕ). IsDisjunction limit 0 0 body d.nodes x []) d.ends.1 (subst (λ (x : List ℕ). IsDisjunction limit 0 0 body d.nodes d.after x) d.ends.0 d.disjunction);
      node_is = d.ends.2;
    }

spells_left : (body flags : List ℕ) (p : Pattern) → Spells body flags p → Left (bound p.groups p.node) start body
spells_left body flags p s = subst (λ (q : Node). Left (bound p.groups q) start body) (sym s.node_is) (shape_left body (Some p.groups) s.nodes p.groups s.disjunction)

left_spells : (body flags : List ℕ) (p : Pattern) → Left (bound p.groups p.node) start body → flags_of flags ≡ Some p.flags → Spells body flags p
left_spells body flags p l f =
    let s = left_shape body (Some p.groups) p.groups p.node l in
    record { nodes = s.nodes; disjunction = s.disjunction; node_is = sym s.node_is; flags_are = f }

abbrev pub made : Node × ℕ → Flags → Pattern
made x f = record { node = x.0; groups = x.1; flags = f }

pub found : (body flags : List ℕ) (x : Node × ℕ) (f : Flags) → LeadsTo start body (Ok x) → flags_of flags ≡ Some f → Spells body flags (made x f)
found body flags x f h e = left_spells body flags (made x f) h.0 e

pattern_eq : (x : Node × ℕ) (f : Flags) (p : Pattern) → pair x.1 x.0 ≡ pair p.groups p.node → f ≡ p.flags → made x f ≡ p
pattern_eq x f p e g = ap (λ (q : ℕ × Node). made (q.1, q.0) f) e ∙ ap (λ (q : Flags). made (p.node, p.groups) q) g

some_is : (f g : Flags) → Some f ≡ Some g → f ≡ g
some_is f g e = cc

pub only : (body flags : List ℕ) (x : Node × ℕ) (f : Flags) → LeadsTo start body (Ok x) → flags_of flags ≡ Some f → (p : Pattern) → Spells body flags p → made x f ≡ p
only body flags x f h e p s = pattern_eq x f p (h.1 p.groups p.node (spells_left body flags p s)) (some_is f p.flags (sym e ∙ s.flags_are))

pub refused : (body flags : List ℕ) (e : PatternRefusal) → LeadsTo start body (Err e) → (p : Pattern) → Spells body flags p → Answered (Err e) p
refused body flags refusal.NoMemory h p s = tt
refused body flags (refusal.Flags at) h p s = h
refused body flags (refusal.Syntax at) h p s = h (bound p.groups p.node) (spells_left body flags p s)
refused body flags (refusal.BadEscape at) h p s = h (bound p.groups p.node) (spells_left body flags p s)
refused body flags (refusal.TooManyGroups at) h p s = h (bound p.groups p.node) (spells_left body flags p s)
refused body flags (refusal.BackrefRange at) h p s = h.0 p.groups p.node (spells_left body flags p s)

no_shape : (body : List ℕ) → Stuck start body → HasShape body → ⊥
no_shape body h s = h (None, s.groups, alt_of s.nodes) (shape_left body None s.nodes s.groups s.disjunction)

refused_kinds : (body : List ℕ) (e : PatternRefusal) → LeadsTo start body (Err e) → Kinds body (Err e)
refused_kinds body refusal.NoMemory h = tt
refused_kinds body (refusal.Flags at) h = tt
refused_kinds body (refusal.Syntax at) h = no_shape body h
refused_kinds body (refusal.BadEscape at) h = no_shape body h
refused_kinds body (refusal.TooManyGroups at) h = no_shape body h
refused_kinds body (refusal.BackrefRange at) h =
    let s = left_shape body None h.1.0 h.1.1 h.1.2 in
    record { groups = h.1.0; nodes = s.nodes; disjunction = s.disjunction }

pub answer_kinds : (body b : List ℕ) (e : PatternRefusal) → b ≡ body → LeadsTo start b (Err e) → Kinds body (Err e)
answer_kinds body b e d l = refused_kinds body e (subst (λ (q : List ℕ). LeadsTo start q (Err e)) d l)

pub refused_flags : (body flags : List ℕ) (e : PatternRefusal) (f : Flags) → LeadsTo start body (Err e) → flags_of flags ≡ Some f → FlagsAnswer flags (Err e)
refused_flags body flags refusal.NoMemory f h e = (f, e)
refused_flags body flags (refusal.Flags at) f h e = absurd h
refused_flags body flags (refusal.Syntax at) f h e = (f, e)
refused_flags body flags (refusal.BadEscape at) f h e = (f, e)
refused_flags body flags (refusal.TooManyGroups at) f h e = (f, e)
refused_flags body flags (refusal.BackrefRange at) f h e = (f, e)

flags_cut : (n : ℕ) (units : List ℕ) (f : Flags) → flags_from f (take n units) ≡ None → flags_from f units ≡ None
flags_cut zero units f e = absurd cc
flags_cut (suc n) [] f e = absurd cc
flags_cut (suc n) (u ∷ us) f e = by (with_flag f u) (λ g. flags_cut n us g) e
  where
    by : (o : Option Flags) → ((g : Flags) → flags_from g (take n us) ≡ None → flags_from g us ≡ None) → flags_by (λ g. flags_from g (take n us)) o ≡ None → flags_by (λ g. flags_from g us) o ≡ None
    by None k h = refl
    by (Some g) k h = k g h

pub bad_flags : (body flags : List ℕ) (at : ℕ) → IsBadFlag flags at → (p : Pattern) → Spells body flags p → ⊥
bad_flags body flags at b p s =
    let none : flags_of flags ≡ None = flags_cut (suc at) flags no_flags b.here in
    let some = s.flags_are in
    absurd cc

-- ---- the clauses of the whole parser, of which `b` and `g` are the slices of the body and of the flags

pub answer_found : (body flags b g : List ℕ) (x : Node × ℕ) (f : Flags) → b ≡ body → g ≡ flags → flags_of g ≡ Some f → LeadsTo start b (Ok x) → Spells body flags (made x f)
answer_found body flags b g x f d e h l = found body flags x f (subst (λ (q : List ℕ). LeadsTo start q (Ok x)) d l) (subst (λ (q : List ℕ). flags_of q ≡ Some f) e h)

pub answer_only : (body flags b g : List ℕ) (x : Node × ℕ) (f : Flags) → b ≡ body → g ≡ flags → flags_of g ≡ Some f → LeadsTo start b (Ok x) → (p : Pattern) → Spells body flags p → made x f ≡ p
answer_only body flags b g x f d e h l = only body flags x f (subst (λ (q : List ℕ). LeadsTo start q (Ok x)) d l) (subst (λ (q : List ℕ). flags_of q ≡ Some f) e h)

pub answer_refused : (body flags b : List ℕ) (e : PatternRefusal) → b ≡ body → LeadsTo start b (Err e) → (p : Pattern) → Spells body flags p → Answered (Err e) p
answer_refused body flags b e d l = refused body flags e (subst (λ (q : List ℕ). LeadsTo start q (Err e)) d l)

pub answer_flags : (flags b g : List ℕ) (e : PatternRefusal) (f : Flags) → g ≡ flags → flags_of g ≡ Some f → LeadsTo start b (Err e) → FlagsAnswer flags (Err e)
answer_flags flags b g e f d h l = refused_flags b flags e f l (subst (λ (q : List ℕ). flags_of q ≡ Some f) d h)

pub answer_bad : (body flags g : List ℕ) (at : ℕ) → g ≡ flags → IsBadFlag g at → (p : Pattern) → Spells body flags p → ⊥
answer_bad body flags g at d b = bad_flags body flags at (subst (λ (q : List ℕ). IsBadFlag q at) d b)
