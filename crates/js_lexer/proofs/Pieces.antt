-- Trivia, piece by piece: what is read is what is spelt.
use Rattle.std.proofs.Common.{◌≡◌, ℕ, ◌≤◌, Bool, true, false, cond, List, [], ◌∷◌, ◌++◌, length, Option, Some, None, refl, sym, ap, subst, ◌∙◌, arith, inl, inr}
use Rattle.std.specs.Prelude.{◌⊎◌, ◌||◌, ◌&&◌, ◌==◌}
use Rattle.std.specs.List.{list_any}
use Rattle.std.proofs.lemmas.Bool.{eqb-true, and_parts}
use Rattle.js_units.specs.Characters.{is_white_space, is_line_end}
use Rattle.js_lexer.specs.Classes.{is_comment_unit}
use Rattle.js_lexer.specs.Trivia.{IsToLineEnd, IsToClose, IsPiece, piece_white_space, piece_line_end, piece_line_comment, piece_block_comment, piece_hashbang}
use Rattle.js_lexer.specs.Skipping.{after_pair, to_line_end, to_close, close_by, line_by, block_by, hashbang_by, comment_at, piece_at}
use Rattle.js_lexer.proofs.Spans.{run_of, run_only}

-- ---- two units

pair_by : (a b u v : ℕ) (us rest : List ℕ) (x : Bool) → (u == a && v == b) ≡ x → cond x (Some us) None ≡ Some rest → u ∷ v ∷ us ≡ a ∷ b ∷ rest
pair_by a b u v us rest true e h = let parts = and_parts (u == a) (v == b) e in let p = eqb-true u a parts.0 in let q = eqb-true v b parts.1 in cc
pair_by a b u v us rest false e h = absurd cc

-- what stands before the rest
pub pair_is : (a b : ℕ) (units rest : List ℕ) → after_pair a b units ≡ Some rest → units ≡ a ∷ b ∷ rest
pair_is a b [] rest e = absurd cc
pair_is a b (u ∷ []) rest e = absurd cc
pair_is a b (u ∷ v ∷ us) rest e = pair_by a b u v us rest (u == a && v == b) refl e

-- ---- to the line end

line_end_of : (units : List ℕ) → IsToLineEnd units (to_line_end units)
line_end_of units = run_of is_comment_unit units

line_end_only : (units rest : List ℕ) → IsToLineEnd units rest → to_line_end units ≡ rest
line_end_only units rest h = run_only is_comment_unit units h.0 rest h.1

-- ---- to the first `*/`

or_nothing : (x : Bool) → (x || false) ≡ x
or_nothing true = refl
or_nothing false = refl

pub or_assoc : (x y z : Bool) → ((x || y) || z) ≡ (x || (y || z))
or_assoc true y z = refl
or_assoc false y z = refl

-- what was read, behind a comment in which a line end was seen or not
record IsClosed (seen : Bool) (units : List ℕ) (line_end : Bool) (rest : List ℕ) : Type 0 where
  comment : List ℕ
  units_are : units ≡ comment ++ 42 ∷ 47 ∷ rest
  first : (before after : List ℕ) → units ≡ before ++ 42 ∷ 47 ∷ after → length comment ≤ length before
  line_end_is : line_end ≡ (seen || list_any is_line_end comment)

first_more : (u : ℕ) (us comment : List ℕ) → after_pair 42 47 (u ∷ us) ≡ None → ((before after : List ℕ) → us ≡ before ++ 42 ∷ 47 ∷ after → length comment ≤ length before) → (before after : List ℕ) → u ∷ us ≡ before ++ 42 ∷ 47 ∷ after → length (u ∷ comment) ≤ length before
first_more u us comment none first [] after e = absurd (let some : after_pair 42 47 (u ∷ us) ≡ Some after = ap (after_pair 42 47) e in cc)
first_more u us comment none first (b ∷ before) after e = let tail : us ≡ before ++ 42 ∷ 47 ∷ after = cc in omega (arith, first before after tail)

closed_by : (seen : Bool) (u : ℕ) (us : List ℕ) (r : Bool × List ℕ) (x : Option (List ℕ)) → after_pair 42 47 (u ∷ us) ≡ x → close_by x seen (to_close (seen || is_line_end u) us) ≡ Some r → (to_close (seen || is_line_end u) us ≡ Some r → IsClosed (seen || is_line_end u) us r.0 r.1) → IsClosed seen (u ∷ us) r.0 r.1
closed_by seen u us r (Some rest) p e more =
    let same : r ≡ (seen, rest) = cc in
    record { comment = []; units_are = pair_is 42 47 (u ∷ us) rest p ∙ ap (λ q. 42 ∷ 47 ∷ q) (ap (λ q. q.1) (sym same)); first = λ before after h. omega arith; line_end_is = ap (λ q. q.0) same ∙ sym (or_nothing seen) }
closed_by seen u us r None p e more =
    let h = more e in
    record { comment = u ∷ h.comment; units_are = ap (λ q. u ∷ q) h.units_are; first = first_more u us h.comment p h.first; line_end_is = h.line_end_is ∙ or_assoc seen (is_line_end u) (list_any is_line_end h.comment) }

closed_of : (seen : Bool) (units : List ℕ) (r : Bool × List ℕ) → to_close seen units ≡ Some r → IsClosed seen units r.0 r.1
closed_of seen [] r e = absurd cc
closed_of seen (u ∷ us) r e = closed_by seen u us r (after_pair 42 47 (u ∷ us)) refl e (closed_of (seen || is_line_end u) us r)

-- a comment with a `*/` nowhere before its end is read up to that
Firsts : List ℕ → List ℕ → Type 0
Firsts comment rest = (before after : List ℕ) → comment ++ 42 ∷ 47 ∷ rest ≡ before ++ 42 ∷ 47 ∷ after → length comment ≤ length before

closes_by : (seen : Bool) (u : ℕ) (comment rest : List ℕ) (x : Option (List ℕ)) → after_pair 42 47 (u ∷ comment ++ 42 ∷ 47 ∷ rest) ≡ x → ((before after : List ℕ) → u ∷ comment ++ 42 ∷ 47 ∷ rest ≡ before ++ 42 ∷ 47 ∷ after → length (u ∷ comment) ≤ length before) → (more : Option (Bool × List ℕ)) → close_by x seen more ≡ more
closes_by seen u comment rest (Some other) p first more = absurd (let l = first [] other (pair_is 42 47 (u ∷ comment ++ 42 ∷ 47 ∷ rest) other p) in omega (arith, l))
closes_by seen u comment rest None p first more = refl

closes : (seen : Bool) (comment rest : List ℕ) → ((before after : List ℕ) → comment ++ 42 ∷ 47 ∷ rest ≡ before ++ 42 ∷ 47 ∷ after → length comment ≤ length before) → to_close seen (comment ++ 42 ∷ 47 ∷ rest) ≡ Some (seen || list_any is_line_end comment, rest)
closes seen [] rest first = ap (λ q. Some (q, rest)) (sym (or_nothing seen))
closes seen (u ∷ comment) rest first =
    let shorter : (before after : List ℕ) → comment ++ 42 ∷ 47 ∷ rest ≡ before ++ 42 ∷ 47 ∷ after → length comment ≤ length before = λ before after e. omega (arith, first (u ∷ before) after (ap (λ q. u ∷ q) e)) in
    closes_by seen u comment rest (after_pair 42 47 (u ∷ comment ++ 42 ∷ 47 ∷ rest)) refl first (to_close (seen || is_line_end u) (comment ++ 42 ∷ 47 ∷ rest))
    ∙ closes (seen || is_line_end u) comment rest shorter
    ∙ ap (λ q. Some (q, rest)) (or_assoc seen (is_line_end u) (list_any is_line_end comment))

close_of : (units : List ℕ) (r : Bool × List ℕ) → to_close false units ≡ Some r → IsToClose units r.0 r.1
close_of units r e = let h = closed_of false units r e in record { comment = h.comment; units_are = h.units_are; first = h.first; line_end_is = h.line_end_is }

close_only : (units : List ℕ) (line_end : Bool) (rest : List ℕ) → IsToClose units line_end rest → to_close false units ≡ Some (line_end, rest)
close_only units line_end rest h =
    ap (to_close false) h.units_are
    ∙ closes false h.comment rest (λ before after e. h.first before after (h.units_are ∙ e))
    ∙ ap (λ q. Some (q, rest)) (sym h.line_end_is)

-- ---- one piece

hashbang_of : (at_start : Bool) (units : List ℕ) (r : Bool × List ℕ) (x : Option (List ℕ)) → after_pair 35 33 units ≡ x → cond at_start (hashbang_by x) None ≡ Some r → IsPiece at_start units r.0 r.1
hashbang_of true units r (Some us) p e =
    let same : (false, to_line_end us) ≡ r = cc in
    subst (λ (q : Bool × List ℕ). IsPiece true units q.0 q.1) same (subst (λ (q : List ℕ). IsPiece true q false (to_line_end us)) (sym (pair_is 35 33 units us p)) (piece_hashbang us (to_line_end us) (line_end_of us)))
hashbang_of true units r None p e = absurd cc
hashbang_of false units r x p e = absurd cc

block_of : (at_start : Bool) (units : List ℕ) (r : Bool × List ℕ) (x : Option (List ℕ)) → after_pair 47 42 units ≡ x → block_by x (cond at_start (hashbang_by (after_pair 35 33 units)) None) ≡ Some r → IsPiece at_start units r.0 r.1
block_of at_start units r (Some us) p e = subst (λ (q : List ℕ). IsPiece at_start q r.0 r.1) (sym (pair_is 47 42 units us p)) (piece_block_comment at_start r.0 us r.1 (close_of us r e))
block_of at_start units r None p e = hashbang_of at_start units r (after_pair 35 33 units) refl e

line_of : (at_start : Bool) (units : List ℕ) (r : Bool × List ℕ) (x : Option (List ℕ)) → after_pair 47 47 units ≡ x → line_by x (block_by (after_pair 47 42 units) (cond at_start (hashbang_by (after_pair 35 33 units)) None)) ≡ Some r → IsPiece at_start units r.0 r.1
line_of at_start units r (Some us) p e =
    let same : (false, to_line_end us) ≡ r = cc in
    subst (λ (q : Bool × List ℕ). IsPiece at_start units q.0 q.1) same (subst (λ (q : List ℕ). IsPiece at_start q false (to_line_end us)) (sym (pair_is 47 47 units us p)) (piece_line_comment at_start us (to_line_end us) (line_end_of us)))
line_of at_start units r None p e = block_of at_start units r (after_pair 47 42 units) refl e

comment_of : (at_start : Bool) (units : List ℕ) (r : Bool × List ℕ) → comment_at at_start units ≡ Some r → IsPiece at_start units r.0 r.1
unfolding comment_at
comment_of at_start units r e = line_of at_start units r (after_pair 47 47 units) refl e

unit_of : (at_start : Bool) (u : ℕ) (us : List ℕ) (r : Bool × List ℕ) (x y : Bool) → is_white_space u ≡ x → is_line_end u ≡ y → cond x (Some (false, us)) (cond y (Some (true, us)) (comment_at at_start (u ∷ us))) ≡ Some r → IsPiece at_start (u ∷ us) r.0 r.1
unit_of at_start u us r true y a b e = let same : (false, us) ≡ r = cc in subst (λ (q : Bool × List ℕ). IsPiece at_start (u ∷ us) q.0 q.1) same (piece_white_space at_start u us a)
unit_of at_start u us r false true a b e = let same : (true, us) ≡ r = cc in subst (λ (q : Bool × List ℕ). IsPiece at_start (u ∷ us) q.0 q.1) same (piece_line_end at_start u us b)
unit_of at_start u us r false false a b e = comment_of at_start (u ∷ us) r e

-- what is read is a piece
pub piece_of : (at_start : Bool) (units : List ℕ) (r : Bool × List ℕ) → piece_at at_start units ≡ Some r → IsPiece at_start units r.0 r.1
unfolding piece_at
piece_of at_start [] r e = absurd cc
piece_of at_start (u ∷ us) r e = unit_of at_start u us r (is_white_space u) (is_line_end u) refl refl e

line_end_units : (u : ℕ) → is_line_end u ≡ true → (u ≡ 10) ⊎ ((u ≡ 13) ⊎ ((u ≡ 8232) ⊎ (u ≡ 8233)))
unfolding is_line_end
line_end_units u e = grind (arith, eqb-true)

-- no line end is white space
line_end_apart : (u : ℕ) → is_line_end u ≡ true → is_white_space u ≡ false
unfolding is_white_space
line_end_apart u e = elim (line_end_units u e) [ inl h ↦ rw h refl | inr h ↦ elim h [ inl f ↦ rw f refl | inr f ↦ elim f [ inl g ↦ rw g refl | inr g ↦ rw g refl ] ] ]

-- a piece is read
pub piece_only : (at_start : Bool) (units : List ℕ) (line_end : Bool) (rest : List ℕ) → IsPiece at_start units line_end rest → piece_at at_start units ≡ Some (line_end, rest)
unfolding piece_at comment_at is_white_space is_line_end
piece_only at_start _ _ _ (piece_white_space _ u rest e) = rw e refl
piece_only at_start _ _ _ (piece_line_end _ u rest e) = rw (line_end_apart u e) (rw e refl)
piece_only at_start _ _ _ (piece_line_comment _ units rest h) = ap (λ q. Some (false, q)) (line_end_only units rest h)
piece_only at_start _ line_end _ (piece_block_comment _ _ units rest h) = close_only units line_end rest h
piece_only _ _ _ _ (piece_hashbang units rest h) = ap (λ q. Some (false, q)) (line_end_only units rest h)
