-- This project's own: names and marks, read from left to right.
use Rattle.std.specs.Prelude.{ℕ, ◌-◌, ◌==◌, ◌&&◌, not, nat_le, nat_lt, Bool, true, false, List, [], ◌∷◌, length, take, drop, max, codes, Option, Some, None, if◌then◌else◌}
use Rattle.std.specs.Option.{option_map}
use Rattle.js_units.specs.Characters.{is_name_part, is_digit}
use Rattle.js_lexer.specs.Runs.{starts, skip_while}
use Rattle.js_units.specs.Words.{reserved_words}
use Rattle.js_lexer.specs.Tables.{is_among, marks, refused_marks}
use Rattle.js_lexer.specs.Numbers.{max_safe}
use Rattle.js_lexer.specs.Digits.{number_at}
use Rattle.js_lexer.specs.declared.token.TokenKind.TheVariants as k
use Rattle.js_lexer.specs.declared.token.Lexeme.{Lexeme}
use Rattle.js_lexer.specs.declared.token.Lexeme.TheVariants as lexeme

-- a lexeme, and what is behind it
abbrev pub Found : Type 0
Found = Lexeme × List ℕ

abbrev pub name_kind : Bool → Lexeme
name_kind true = lexeme.Token k.Word
name_kind false = lexeme.Token k.Name

unfoldable pub name_at : List ℕ → Found
name_at units =
    let rest = skip_while is_name_part units in
    (name_kind (is_among reserved_words (take (length units - length rest) units)), rest)

abbrev pub number_kind : ℕ → Lexeme
number_kind value = if nat_le value max_safe then lexeme.Token k.Number else lexeme.Token k.WideNumber

unfoldable pub numeral_at : List ℕ → Option Found
numeral_at units = option_map (λ x. (number_kind x.0, x.1)) (number_at units)

-- whether the units begin with an entry
abbrev pub begins_with : List ℕ → List ℕ → Bool
begins_with [] units = true
begins_with (e ∷ es) [] = false
begins_with (e ∷ es) (u ∷ us) = e == u && begins_with es us

-- the length of the longest entry of a table with which the units begin, 0 for none
abbrev pub longest_of : List (List ℕ) → List ℕ → ℕ
longest_of [] units = 0
longest_of (entry ∷ table) units = max (if begins_with entry units then length entry else 0) (longest_of table units)

-- the length of `-->` at the start of a line, and of `?.` that no digit follows
unfoldable pub comment_close : Bool → List ℕ → ℕ
comment_close starts_line units = if starts_line && begins_with (codes "-->") units then 3 else 0

unfoldable pub optional_chain : List ℕ → ℕ
optional_chain units = if begins_with (codes "?.") units && not (starts is_digit (drop 2 units)) then 2 else 0

unfoldable pub longest_refused : Bool → List ℕ → ℕ
longest_refused starts_line units =
    max (longest_of refused_marks units) (max (comment_close starts_line units) (optional_chain units))

abbrev pub mark_by : ℕ → ℕ → List ℕ → Option Found
mark_by mark refused units =
    if nat_lt mark refused then Some (lexeme.Refused, drop refused units)
    else (if nat_lt 0 mark then Some (lexeme.Token k.Mark, drop mark units)
    else None)

unfoldable pub mark_at : Bool → List ℕ → Option Found
mark_at starts_line units = mark_by (longest_of marks units) (longest_refused starts_line units) units
