-- Backreferences: where they stand.
use Rattle.std.proofs.Common.{◌≡◌, ℕ, ◌+◌, ◌<◌, ◌≤◌, Bool, true, false, cond, List, [], ◌∷◌, ◌++◌, length, Some, None, refl, sym, ap, subst, ◌∙◌, append_assoc, arith, inl, inr}
use Rattle.std.specs.Prelude.{◌⊎◌, ◌==◌, ◌&&◌, ◌*◌, ◌-◌, min, nat_le, Result, Ok, Err}
use Rattle.std.proofs.lemmas.List.{append-nil, length-append}
use Rattle.std.proofs.lemmas.List.Folds.{list_all-append}
use Rattle.std.proofs.lemmas.Bool.{leb-true, lt-leb, le-leb}
use Rattle.re_ast.specs.declared.patterns.Node.{Node}
use Rattle.js_units.specs.Characters.{is_digit}
use Rattle.re_parser.specs.Escapes.{starts}
use Rattle.re_parser.specs.Quantifiers.{digits_from}
use Rattle.re_parser.specs.Grammar.{Begins, is_within, alt_of, IsDisjunction}
use Rattle.re_parser.specs.Answers.{EndAnswer}
use Rattle.re_parser.specs.Places.{ViableWithin, IsUnbound, IsAt, IsRefusedAt}
use Rattle.re_parser.specs.Reading.{Left, IsStep, StepBacks, IsBackHere, IsBack, AreBacks, IsFirstUnbound, first_back, are_bound, start}
use Rattle.re_parser.specs.declared.kinds.Atom.TheVariants as atom
use Rattle.re_parser.specs.declared.kinds.Piece.TheVariants as piece
use Rattle.re_parser.specs.declared.reader.Frame.{Frame}
use Rattle.re_parser.specs.declared.reader.Reader.{Reader}
use Rattle.re_parser.specs.declared.reader.Backreference.{Backreference}
use Rattle.re_parser.specs.declared.refusal.PatternRefusal.{PatternRefusal}
use Rattle.re_parser.specs.declared.refusal.PatternRefusal.TheVariants as refusal
use Rattle.re_parser.proofs.Members.{parts_same}
use Rattle.re_parser.proofs.Numbers.{digits_cut}
use Rattle.re_parser.proofs.PieceCuts.{is_back}
use Rattle.re_parser.proofs.Firsts.{BackAt, back_at, back_begins, back_escapes}
use Rattle.re_parser.proofs.Goings.{closers, closed_node, reader_closes, bound_closes, closers_agree}
use Rattle.re_parser.proofs.Refusals.{backslash_agree}
use Rattle.re_parser.proofs.Steps.{back_bound}
use Rattle.re_parser.proofs.Wholes.{shape_left, left_shape}
use Rattle.re_parser.proofs.Lifts.{step_same, ended_syntax}

-- ---- more digits make no number smaller

digits_least : (us : List ℕ) (value : ℕ) → value ≤ 65536 → value ≤ (digits_from value us).0
digits_least [] value h = omega arith
digits_least (u ∷ us) value h = by (is_digit u) (digits_least us (min (value * 10 + (u - 48)) 65536) (omega arith))
  where
    by : (c : Bool) → min (value * 10 + (u - 48)) 65536 ≤ (digits_from (min (value * 10 + (u - 48)) 65536) us).0 → value ≤ (cond {A = ℕ × List ℕ} c (digits_from (min (value * 10 + (u - 48)) 65536) us) (value, u ∷ us)).0
    by true k = omega arith
    by false k = omega arith

abbrev number_of : ℕ × List ℕ → ℕ
number_of x = x.0

digits_grow : (part more : List ℕ) (value n : ℕ) → value ≤ 65536 → digits_from value (part ++ []) ≡ (n, []) → n ≤ (digits_from value (part ++ more)).0
digits_grow [] more value n h e = let same : value ≡ n = ap number_of e in let least = digits_least more value h in omega arith
digits_grow (u ∷ part) more value n h e = by (is_digit u) (λ f. digits_grow part more (min (value * 10 + (u - 48)) 65536) n (omega arith) f) e
  where
    by : (c : Bool) → (digits_from (min (value * 10 + (u - 48)) 65536) (part ++ []) ≡ (n, []) → n ≤ (digits_from (min (value * 10 + (u - 48)) 65536) (part ++ more)).0) → cond {A = ℕ × List ℕ} c (digits_from (min (value * 10 + (u - 48)) 65536) (part ++ [])) (value, u ∷ part ++ []) ≡ (n, []) → n ≤ (cond {A = ℕ × List ℕ} c (digits_from (min (value * 10 + (u - 48)) 65536) (part ++ more)) (value, u ∷ part ++ more)).0
    by true k e = k e
    by false k e = absurd (let never : u ∷ part ++ [] ≡ [] = ap (λ (x : ℕ × List ℕ). x.1) e in cc)

-- ---- a step

abbrev NoDigit : List ℕ → List ℕ → Type 0
NoDigit a b = starts is_digit a ≡ false → starts is_digit b ≡ false

not_within : (most n m : ℕ) → most < n → n ≤ m → is_within (Some most) m ≡ true → ⊥
not_within most n m h k e = let le = leb-true m most e in omega arith

pub back_here : (r : Reader) (units : List ℕ) (n : ℕ) (rest : List ℕ) → Begins units (piece.Atom (atom.Back n)) rest → IsBackHere r units n
back_here r units n rest b =
    let e = back_escapes units n rest b in
    let a = back_at e.0 n rest e.2 in
    let c = digits_cut NoDigit (λ x y h. h) e.0 0 n rest a.number in
    made e.0 e.1 a c.part c.parts c.none (ap (λ (x : List ℕ). digits_from 0 x) (sym c.parts) ∙ a.number) (c.again [] (λ k. refl))
  where
    made : (us : List ℕ) → units ≡ 92 ∷ us → BackAt us n rest → (part : List ℕ) → us ≡ part ++ rest → starts is_digit rest ≡ false → digits_from 0 (part ++ rest) ≡ (n, rest) → digits_from 0 (part ++ []) ≡ (n, []) → IsBackHere r units n
    made us d a [] p none k g = absurd (
        let digit = is_back a.first a.positive in
        let no : is_digit a.first ≡ false = subst (λ (x : List ℕ). starts is_digit x ≡ false) (sym p ∙ a.is) none in
        cc)
    made us d a (v ∷ part) p none k g = record {
      digits = v ∷ part;
      behind = rest;
      is = d ∙ ap (λ (x : List ℕ). 92 ∷ x) p;
      counts = k;
      there = λ most lt more. (
        backslash_agree units (v ∷ part ++ more),
        λ groups node l.
            let same : a.first ≡ v = let q = sym a.is ∙ p in cc in
            let begins = back_begins v (part ++ more) (subst (λ (x : ℕ). (nat_le 49 x && nat_le x 57) ≡ true) same a.positive) (subst (λ (x : ℕ). (x == 98) ≡ false) same a.letter) (subst (λ (x : ℕ). (x == 66) ≡ false) same a.other) in
            not_within most n (digits_from 0 (v ∷ part ++ more)).0 lt (digits_grow (v ∷ part) more 0 n (omega arith) g)
            (back_bound (Some most, groups, node) r (92 ∷ v ∷ part ++ more) (digits_from 0 (v ∷ part ++ more)).0 (digits_from 0 (v ∷ part ++ more)).1 begins l),
      );
    }

-- ---- all that were read

abbrev after : List Backreference → Backreference → List Backreference
after backs b = backs ++ b ∷ []

record Split (xs earlier : List Backreference) (b c : Backreference) : Type 0 where
  either : ((xs ≡ earlier) × (b ≡ c)) ⊎ ((later : List Backreference) × (xs ≡ earlier ++ c ∷ later))

no_tail : (es later : List Backreference) (c : Backreference) → [] ≡ es ++ c ∷ later → ⊥
no_tail [] later c e = cc
no_tail (x ∷ es) later c e = cc

split : (xs : List Backreference) (b : Backreference) (earlier : List Backreference) (c : Backreference) (later : List Backreference) → xs ++ b ∷ [] ≡ earlier ++ c ∷ later → Split xs earlier b c
split [] b [] c later e = let same : b ≡ c = cc in record { either = inl (refl, same) }
split [] b (x ∷ es) c later e = absurd (let none : [] ≡ es ++ c ∷ later = cc in no_tail es later c none)
split (x ∷ xs) b [] c later e = let same : x ≡ c = cc in record { either = inr (xs, ap (λ (q : Backreference). q ∷ xs) same) }
split (x ∷ xs) b (y ∷ es) c later e =
    let same : x ≡ y = cc in
    let others : xs ++ b ∷ [] ≡ es ++ c ∷ later = cc in
    elim (split xs b es c later others).either [
      | inl h ↦ record { either = inl (ap (λ (q : List Backreference). x ∷ q) h.0 ∙ ap (λ (q : Backreference). q ∷ es) same, h.1) }
      | inr h ↦ record { either = inr (h.0, ap (λ (q : List Backreference). x ∷ q) h.1 ∙ ap (λ (q : Backreference). q ∷ (es ++ c ∷ h.0)) same) }
    ]

within_from : (body : List ℕ) (most groups : ℕ) (n : Node) (front more : List ℕ) → Left (Some most, groups, n) start (front ++ more) → ViableWithin most front
within_from body most groups n front more l = let s = left_shape (front ++ more) (Some most) groups n l in (more, s.nodes, groups, s.disjunction)

new_back : (body : List ℕ) (r : Reader) (units : List ℕ) (n : ℕ) → IsStep start body (r, units) → IsBackHere r units n → IsBack body r.backs (record { number = n; left = length units })
new_back body r units n h b = record {
  front = h.part;
  rest = units;
  parts = h.parts;
  count = refl;
  digits = b.digits;
  behind = b.behind;
  is = b.is;
  counts = b.counts;
  before = λ most e. within_from body most r.groups (closed_node r) h.part (closers r.frames) ((h.leads (closers r.frames) (closers_agree units r.frames) (Some most, r.groups, closed_node r)).1 (bound_closes r most e));
  there = λ most lt v.
      let t = b.there most lt v.0 in
      let d = subst (λ (x : List ℕ). IsDisjunction (Some most) 0 0 x v.1 v.2 []) (append_assoc h.part (92 ∷ b.digits) v.0) v.3 in
      t.1 v.2 (alt_of v.1) ((h.leads (92 ∷ b.digits ++ v.0) t.0 (Some most, v.2, alt_of v.1)).0 (shape_left (h.part ++ (92 ∷ b.digits ++ v.0)) (Some most) v.1 v.2 d));
}

backs_after : (body : List ℕ) (backs : List Backreference) (b : Backreference) → AreBacks body backs → IsBack body backs b → AreBacks body (after backs b)
backs_after body backs b h k earlier c later e =
    elim (split backs b earlier c later e).either [
      | inl s ↦ subst (λ (x : Backreference). IsBack body earlier x) s.1 (subst (λ (x : List Backreference). IsBack body x b) s.0 k)
      | inr s ↦ h earlier c s.0 s.1
    ]

pub backs_next : (body : List ℕ) (r q : Reader) (units : List ℕ) → IsStep start body (r, units) → AreBacks body r.backs → StepBacks r units q → AreBacks body q.backs
backs_next body r q units h a (inl e) = subst (λ (x : List Backreference). AreBacks body x) (sym e) a
backs_next body r q units h a (inr b) = subst (λ (x : List Backreference). AreBacks body x) (sym b.1) (backs_after body r.backs (record { number = b.0; left = length units }) a (new_back body r units b.0 h b.2))

pub backs_start : (body : List ℕ) → AreBacks body []
backs_start body [] b later e = absurd cc
backs_start body (x ∷ earlier) b later e = absurd cc

-- ---- the end

no_frames : (fs : List Frame) → fs ≡ [] → closers fs ≡ []
no_frames [] e = refl
no_frames (f ∷ fs) e = absurd cc

shape_of : (body : List ℕ) (r : Reader) → IsStep start body (r, []) → r.frames ≡ [] → Left (None, r.groups, closed_node r) start body
shape_of body r h e =
    let l = subst (λ (x : List ℕ). Left (None, r.groups, closed_node r) r x) (no_frames r.frames e) (reader_closes r) in
    (step_same start r body [] h (None, r.groups, closed_node r)).1 l

unbound : (body : List ℕ) (r : Reader) (b : Backreference) → IsStep start body (r, []) → AreBacks body r.backs → r.frames ≡ [] → IsFirstUnbound r.groups r.backs b → (at : ℕ) → at ≡ length body - b.left → IsAt body at (IsUnbound body)
unbound body r b h a e u at p =
    let k = a u.earlier b u.later u.parts in
    let s = left_shape body None r.groups (closed_node r) (shape_of body r h e) in
    record {
      front = k.front;
      rest = k.rest;
      parts = k.parts;
      place = omega (arith, p, k.count, ap length k.parts, length-append k.front k.rest);
      is = record {
        shape = record { groups = r.groups; nodes = s.nodes; disjunction = s.disjunction };
        digits = k.digits;
        behind = k.behind;
        is = k.is;
        number = b.number;
        counts = k.counts;
        above = u.above;
        before = k.before r.groups u.bound;
        there = k.there r.groups u.above;
      };
    }

pub ended_in : (X : Type 0) (body : List ℕ) (r : Reader) (answer : Result X PatternRefusal) → IsStep start body (r, []) → AreBacks body r.backs → EndAnswer r (length body) answer → IsRefusedAt body answer
ended_in X body r (Ok x) h a e = tt
ended_in X body r (Err (refusal.BackrefRange at)) h a e = unbound body r e.1 h a e.0 e.2 at e.3
ended_in X body r (Err (refusal.Syntax at)) h a e = ended_syntax X body r at h e
ended_in X body r (Err (refusal.BadEscape at)) h a e = absurd e
ended_in X body r (Err (refusal.TooManyGroups at)) h a e = absurd e
ended_in X body r (Err (refusal.Flags at)) h a e = tt
ended_in X body r (Err refusal.NoMemory) h a e = tt

-- ---- the search

pub record Searched (groups : ℕ) (backs left : List Backreference) : Type 0 where
  pub earlier : List Backreference
  pub parts : backs ≡ earlier ++ left
  pub bound : are_bound (Some groups) earlier ≡ true

pub searched_start : (groups : ℕ) (backs : List Backreference) → Searched groups backs backs
searched_start groups backs = record { earlier = []; parts = refl; bound = refl }

pub first_is : (left : List Backreference) (b : Backreference) (rest : List Backreference) → first_back left ≡ Some (b, rest) → left ≡ b ∷ rest
first_is [] b rest e = absurd cc
first_is (x ∷ xs) b rest e = let p = parts_same Backreference (List Backreference) (x, xs) (b, rest) e in ap (λ (q : Backreference). q ∷ xs) p.0 ∙ ap (λ (q : List Backreference). b ∷ q) p.1

pub first_none : (left : List Backreference) → first_back left ≡ None → left ≡ []
first_none [] e = refl
first_none (x ∷ xs) e = absurd cc

pub searched_more : (groups : ℕ) (backs : List Backreference) (b : Backreference) (rest left : List Backreference) → Searched groups backs left → left ≡ b ∷ rest → b.number ≤ groups → Searched groups backs rest
searched_more groups backs b rest left s e h = record {
  earlier = s.earlier ++ b ∷ [];
  parts = s.parts ∙ ap (λ (x : List Backreference). s.earlier ++ x) e ∙ sym (append_assoc s.earlier (b ∷ []) rest);
  bound = list_all-append (λ (x : Backreference). is_within (Some groups) x.number) s.earlier (b ∷ []) ∙ rw (s.bound, le-leb b.number groups h) refl;
}

pub searched_found : (groups : ℕ) (backs : List Backreference) (b : Backreference) (rest left : List Backreference) → Searched groups backs left → left ≡ b ∷ rest → groups < b.number → IsFirstUnbound groups backs b
searched_found groups backs b rest left s e h = record { earlier = s.earlier; later = rest; parts = s.parts ∙ ap (λ (x : List Backreference). s.earlier ++ x) e; bound = s.bound; above = h }

pub searched_all : (groups : ℕ) (backs left : List Backreference) → Searched groups backs left → left ≡ [] → are_bound (Some groups) backs ≡ true
searched_all groups backs left s e = ap (are_bound (Some groups)) (s.parts ∙ ap (λ (x : List Backreference). s.earlier ++ x) e ∙ append-nil s.earlier) ∙ s.bound

pub unbound_false : (groups : ℕ) (backs : List Backreference) (b : Backreference) → IsFirstUnbound groups backs b → are_bound (Some groups) backs ≡ false
unbound_false groups backs b u =
    ap (are_bound (Some groups)) u.parts ∙ list_all-append (λ (x : Backreference). is_within (Some groups) x.number) u.earlier (b ∷ u.later) ∙ rw (u.bound, lt-leb b.number groups u.above) refl
