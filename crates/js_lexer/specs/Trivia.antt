-- White space, line ends and comments (ECMA-262, sections 12.2 to 12.5).
use Rattle.std.specs.Prelude.{◌≡◌, ◌≤◌, ℕ, ◌||◌, Bool, true, false, List, ◌∷◌, ◌++◌, length}
use Rattle.std.specs.List.{list_any}
use Rattle.js_units.specs.Characters.{is_white_space, is_line_end}
use Rattle.js_lexer.specs.Classes.{is_comment_unit}
use Rattle.js_lexer.specs.Runs.{IsRun}

-- the rest of a comment that goes up to the line end, which isn't part of it
abbrev pub IsToLineEnd : List ℕ → List ℕ → Type 0
IsToLineEnd units rest = (comment : List ℕ) × IsRun is_comment_unit units comment rest

-- the rest of a comment that goes up to the first `*/`, and whether a line end stands in it
pub record IsToClose (units : List ℕ) (line_end : Bool) (rest : List ℕ) : Type 0 where
  pub comment : List ℕ
  pub units_are : units ≡ comment ++ 42 ∷ 47 ∷ rest
  pub first : (before after : List ℕ) → units ≡ before ++ 42 ∷ 47 ∷ after → length comment ≤ length before
  pub line_end_is : line_end ≡ list_any is_line_end comment

-- The units begin with a piece of trivia, which holds a line end or not, and the rest stands behind
-- it. A comment with `#!` stands only at the start of the text.
pub data IsPiece : Bool → List ℕ → Bool → List ℕ → Type 0 where
  piece_white_space : (at_start : Bool) (u : ℕ) (rest : List ℕ) → is_white_space u ≡ true → IsPiece at_start (u ∷ rest) false rest
  piece_line_end : (at_start : Bool) (u : ℕ) (rest : List ℕ) → is_line_end u ≡ true → IsPiece at_start (u ∷ rest) true rest
  piece_line_comment : (at_start : Bool) (units rest : List ℕ) → IsToLineEnd units rest → IsPiece at_start (47 ∷ 47 ∷ units) false rest
  piece_block_comment : (at_start line_end : Bool) (units rest : List ℕ) → IsToClose units line_end rest → IsPiece at_start (47 ∷ 42 ∷ units) line_end rest
  piece_hashbang : (units rest : List ℕ) → IsToLineEnd units rest → IsPiece true (35 ∷ 33 ∷ units) false rest

-- Pieces as long as one begins, whether a line end stands in any of them, and what is behind them.
pub data IsTrivia : Bool → List ℕ → Bool → List ℕ → Type 0 where
  trivia_none : (at_start : Bool) (units : List ℕ) → ((line_end : Bool) (rest : List ℕ) → ¬ (IsPiece at_start units line_end rest)) → IsTrivia at_start units false units
  trivia_more : (at_start here later : Bool) (units mid rest : List ℕ) → IsPiece at_start units here mid → IsTrivia false mid later rest → IsTrivia at_start units (here || later) rest
