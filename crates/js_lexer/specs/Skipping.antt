-- This project's own: trivia, read from left to right.
use Rattle.std.specs.Prelude.{ℕ, ◌==◌, ◌&&◌, ◌||◌, Bool, true, false, List, [], ◌∷◌, Option, Some, None, if◌then◌else◌}
use Rattle.js_units.specs.Characters.{is_white_space, is_line_end}
use Rattle.js_lexer.specs.Classes.{is_comment_unit}
use Rattle.js_lexer.specs.Runs.{skip_while}

-- what is behind two units
abbrev pub after_pair : ℕ → ℕ → List ℕ → Option (List ℕ)
after_pair a b [] = None
after_pair a b (u ∷ []) = None
after_pair a b (u ∷ v ∷ us) = if u == a && v == b then Some us else None

abbrev pub to_line_end : List ℕ → List ℕ
to_line_end units = skip_while is_comment_unit units

abbrev pub close_by : Option (List ℕ) → Bool → Option (Bool × List ℕ) → Option (Bool × List ℕ)
close_by (Some rest) line_end more = Some (line_end, rest)
close_by None line_end more = more

-- behind the first `*/`, with whether a line end was seen
abbrev pub to_close : Bool → List ℕ → Option (Bool × List ℕ)
to_close line_end [] = None
to_close line_end (u ∷ us) = close_by (after_pair 42 47 (u ∷ us)) line_end (to_close (line_end || is_line_end u) us)

abbrev pub hashbang_by : Option (List ℕ) → Option (Bool × List ℕ)
hashbang_by (Some us) = Some (false, to_line_end us)
hashbang_by None = None

abbrev pub block_by : Option (List ℕ) → Option (Bool × List ℕ) → Option (Bool × List ℕ)
block_by (Some us) other = to_close false us
block_by None other = other

abbrev pub line_by : Option (List ℕ) → Option (Bool × List ℕ) → Option (Bool × List ℕ)
line_by (Some us) other = Some (false, to_line_end us)
line_by None other = other

unfoldable pub comment_at : Bool → List ℕ → Option (Bool × List ℕ)
comment_at at_start units =
    line_by (after_pair 47 47 units)
    (block_by (after_pair 47 42 units)
    (if at_start then hashbang_by (after_pair 35 33 units) else None))

-- a piece of trivia at the front, and what is behind it
unfoldable pub piece_at : Bool → List ℕ → Option (Bool × List ℕ)
piece_at at_start [] = None
piece_at at_start (u ∷ us) =
    if is_white_space u then Some (false, us)
    else (if is_line_end u then Some (true, us)
    else comment_at at_start (u ∷ us))
