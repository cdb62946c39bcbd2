-- Trivia, and how far they go.
use Rattle.std.proofs.Common.{◌≡◌, ℕ, ◌<◌, Bool, true, false, List, [], ◌∷◌, ◌++◌, length, Some, refl, sym, ap, subst, ◌∙◌, arith, length-append}
use Rattle.std.specs.Prelude.{◌||◌, None}
use Rattle.js_lexer.specs.Trivia.{IsToLineEnd, IsToClose, IsPiece, piece_white_space, piece_line_end, piece_line_comment, piece_block_comment, piece_hashbang, IsTrivia, trivia_none, trivia_more}
use Rattle.js_lexer.specs.Skipping.{piece_at}
use Rattle.js_lexer.proofs.Pieces.{or_assoc, piece_of, piece_only}

-- the rest is behind some units
pub record IsBehind (units rest : List ℕ) : Type 0 where
  pub before : List ℕ
  pub units_are : units ≡ before ++ rest

-- the same, with at least one unit before it
pub record IsPast (units rest : List ℕ) : Type 0 where
  pub first : ℕ
  pub before : List ℕ
  pub units_are : units ≡ first ∷ before ++ rest

pub past_shorter : (units rest : List ℕ) → IsPast units rest → length rest < length units
past_shorter units rest h = omega (arith, ap length h.units_are, length-append (h.first ∷ h.before) rest)

pub past_one : (u : ℕ) (rest : List ℕ) → IsPast (u ∷ rest) rest
past_one u rest = record { first = u; before = []; units_are = refl }

pub past_behind : (units rest : List ℕ) → IsPast units rest → IsBehind units rest
past_behind units rest h = record { before = h.first ∷ h.before; units_are = h.units_are }

pub behind_none : (units : List ℕ) → IsBehind units units
behind_none units = record { before = []; units_are = refl }

append_assoc' : (a b c : List ℕ) → a ++ (b ++ c) ≡ (a ++ b) ++ c
append_assoc' [] b c = refl
append_assoc' (x ∷ a) b c = ap (λ q. x ∷ q) (append_assoc' a b c)

pub behind_both : (units mid rest : List ℕ) → IsBehind units mid → IsBehind mid rest → IsBehind units rest
behind_both units mid rest h f = record { before = h.before ++ f.before; units_are = h.units_are ∙ ap (λ q. h.before ++ q) f.units_are ∙ append_assoc' h.before f.before rest }

-- one more unit in front
pub past_more : (u : ℕ) (units rest : List ℕ) → IsBehind units rest → IsPast (u ∷ units) rest
past_more u units rest h = record { first = u; before = h.before; units_are = ap (λ q. u ∷ q) h.units_are }

line_end_behind : (units rest : List ℕ) → IsToLineEnd units rest → IsBehind units rest
line_end_behind units rest h = record { before = h.0; units_are = h.1.units_are }

close_behind : (units : List ℕ) (line_end : Bool) (rest : List ℕ) → IsToClose units line_end rest → IsBehind units rest
close_behind units line_end rest h = record { before = h.comment ++ 42 ∷ 47 ∷ []; units_are = h.units_are ∙ append_assoc' h.comment (42 ∷ 47 ∷ []) rest }

pub piece_past : (at_start : Bool) (units : List ℕ) (line_end : Bool) (rest : List ℕ) → IsPiece at_start units line_end rest → IsPast units rest
piece_past at_start _ _ _ (piece_white_space _ u rest e) = past_one u rest
piece_past at_start _ _ _ (piece_line_end _ u rest e) = past_one u rest
piece_past at_start _ _ _ (piece_line_comment _ units rest h) = past_more 47 (47 ∷ units) rest (past_behind _ _ (past_more 47 units rest (line_end_behind units rest h)))
piece_past at_start _ line_end _ (piece_block_comment _ _ units rest h) = past_more 47 (42 ∷ units) rest (past_behind _ _ (past_more 42 units rest (close_behind units line_end rest h)))
piece_past _ _ _ _ (piece_hashbang units rest h) = past_more 35 (33 ∷ units) rest (past_behind _ _ (past_more 33 units rest (line_end_behind units rest h)))

-- a piece that was read is shorter than the units
pub read_shorter : (at_start : Bool) (units : List ℕ) (r : Bool × List ℕ) → piece_at at_start units ≡ Some r → length r.1 < length units
read_shorter at_start units r e = past_shorter units r.1 (piece_past at_start units r.0 r.1 (piece_of at_start units r e))

pub trivia_behind : (at_start : Bool) (units : List ℕ) (line_end : Bool) (rest : List ℕ) → IsTrivia at_start units line_end rest → IsBehind units rest
trivia_behind at_start _ _ _ (trivia_none _ units none) = behind_none units
trivia_behind at_start _ _ rest (trivia_more _ here later units mid _ piece more) = behind_both units mid rest (past_behind units mid (piece_past at_start units here mid piece)) (trivia_behind false mid later rest more)

-- one more piece
pub trivia_step : (at_start : Bool) (left : List ℕ) (r : Bool × List ℕ) (later : Bool) (rest : List ℕ) → piece_at at_start left ≡ Some r → IsTrivia false r.1 later rest → IsTrivia at_start left (r.0 || later) rest
trivia_step at_start left r later rest e t = trivia_more at_start r.0 later left r.1 rest (piece_of at_start left r e) t

-- no more
pub trivia_end : (at_start : Bool) (left : List ℕ) → piece_at at_start left ≡ None → IsTrivia at_start left false left
trivia_end at_start left e = trivia_none at_start left (λ line_end rest piece. absurd (let some = piece_only at_start left line_end rest piece in cc))

-- where trivia go on, in front of which a line end was seen or not
pub record GoesOn (at_start : Bool) (units : List ℕ) (first seen : Bool) (left : List ℕ) : Type 0 where
  pub goes : (later : Bool) (rest : List ℕ) → IsTrivia first left later rest → IsTrivia at_start units (seen || later) rest

pub goes_start : (at_start : Bool) (units : List ℕ) → GoesOn at_start units at_start false units
goes_start at_start units = record { goes = λ later rest t. t }

pub goes_more : (at_start : Bool) (units : List ℕ) (first seen : Bool) (left : List ℕ) (r : Bool × List ℕ) → GoesOn at_start units first seen left → piece_at first left ≡ Some r → GoesOn at_start units false (seen || r.0) r.1
goes_more at_start units first seen left r h e = record { goes = λ later rest t. subst (λ (q : Bool). IsTrivia at_start units q rest) (sym (or_assoc seen r.0 later)) (h.goes (r.0 || later) rest (trivia_step first left r later rest e t)) }

or_none : (x : Bool) → (x || false) ≡ x
or_none true = refl
or_none false = refl

pub goes_end : (at_start : Bool) (units : List ℕ) (first seen : Bool) (left : List ℕ) → GoesOn at_start units first seen left → piece_at first left ≡ None → IsTrivia at_start units seen left
goes_end at_start units first seen left h e = subst (λ (q : Bool). IsTrivia at_start units q left) (or_none seen) (h.goes false left (trivia_end first left e))
