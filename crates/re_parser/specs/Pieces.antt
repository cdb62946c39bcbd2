-- The pieces of a pattern's text (ECMA-262, sections 22.2.1 and B.1.2).
use Rattle.std.specs.Prelude.{ℕ, ◌==◌, ◌&&◌, nat_le, true, false, List, [], ◌∷◌, Option, Some, None, if◌then◌else◌}
use Rattle.re_parser.specs.Escapes.{character_at, class_escape_of}
use Rattle.re_parser.specs.Quantifiers.{digits_from, braces_at}
use Rattle.re_parser.specs.declared.kinds.ClassEscape.{ClassEscape}
use Rattle.re_parser.specs.declared.kinds.Braces.{Braces}
use Rattle.re_parser.specs.declared.kinds.Assertion.TheVariants as assertion
use Rattle.re_parser.specs.declared.kinds.GroupKind.TheVariants as group
use Rattle.re_parser.specs.declared.kinds.Atom.TheVariants as atom
use Rattle.re_parser.specs.declared.kinds.Piece.{Piece}
use Rattle.re_parser.specs.declared.kinds.Piece.TheVariants as piece

-- a piece, and what is behind it
abbrev pub Read : Type 0
Read = Option (Piece × List ℕ)

-- behind `(?`
abbrev pub marked_group_at : List ℕ → Read
marked_group_at [] = None
marked_group_at (u ∷ us) =
    if u == 58 then Some (piece.Open group.Plain, us)
    else (if u == 61 then Some (piece.Open group.Ahead, us)
    else (if u == 33 then Some (piece.Open group.NotAhead, us)
    else None))

-- behind `(`
unfoldable pub group_at : List ℕ → Read
group_at [] = Some (piece.Open group.Capturing, [])
group_at (u ∷ us) = if u == 63 then marked_group_at us else Some (piece.Open group.Capturing, u ∷ us)

-- behind `[`
unfoldable pub class_at : List ℕ → Read
class_at [] = Some (piece.Class false, [])
class_at (u ∷ us) = if u == 94 then Some (piece.Class true, us) else Some (piece.Class false, u ∷ us)

abbrev pub character_piece : Option (ℕ × List ℕ) → Read
character_piece None = None
character_piece (Some x) = Some (piece.Atom (atom.Unit x.0), x.1)

abbrev pub class_escape_or : Option ClassEscape → List ℕ → Read → Read
class_escape_or None rest other = other
class_escape_or (Some e) rest other = Some (piece.Atom (atom.Escape e), rest)

-- DecimalEscape: the number of all digits that follow
abbrev pub back_piece : ℕ × List ℕ → Read
back_piece x = Some (piece.Atom (atom.Back x.0), x.1)

-- behind a backslash: a boundary, a backreference, a class escape or a character
unfoldable pub escape_at : List ℕ → Read
escape_at [] = None
escape_at (u ∷ us) =
    if u == 98 then Some (piece.Assertion assertion.Word, us)
    else (if u == 66 then Some (piece.Assertion assertion.NotWord, us)
    else (if nat_le 49 u && nat_le u 57 then back_piece (digits_from 0 (u ∷ us))
    else class_escape_or (class_escape_of u) us (character_piece (character_at (u ∷ us)))))

-- a `{` stands for itself, unless it begins braces that count
abbrev pub brace_piece : Option (Braces × List ℕ) → List ℕ → Read
brace_piece None rest = Some (piece.Atom (atom.Unit 123), rest)
brace_piece (Some x) rest = None

-- every other unit stands for itself, but `*`, `+` and `?`
unfoldable pub plain_at : ℕ → List ℕ → Read
plain_at u us =
    if u == 124 then Some (piece.Bar, us)
    else (if u == 41 then Some (piece.Close, us)
    else (if u == 94 then Some (piece.Assertion assertion.LineStart, us)
    else (if u == 36 then Some (piece.Assertion assertion.LineEnd, us)
    else (if u == 46 then Some (piece.Atom atom.Dot, us)
    else (if u == 42 then None
    else (if u == 43 then None
    else (if u == 63 then None
    else Some (piece.Atom (atom.Unit u), us))))))))

-- the piece in front, but a quantifier, and what is behind it
unfoldable pub piece_at : List ℕ → Read
piece_at [] = None
piece_at (u ∷ us) =
    if u == 92 then escape_at us
    else (if u == 40 then group_at us
    else (if u == 91 then class_at us
    else (if u == 123 then brace_piece (braces_at us) us
    else plain_at u us)))
