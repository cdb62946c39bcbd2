-- What the units at a place spell (ECMA-262, section 12), and the longest of it.
use Rattle.std.specs.Prelude.{◌≡◌, ◌<◌, ◌≤◌, ℕ, ◌==◌, ◌&&◌, ◌||◌, not, Bool, true, false, List, [], ◌++◌, length, codes, bytes_eq}
use Rattle.std.specs.List.{list_all}
use Rattle.js_units.specs.Characters.{is_name_start, is_name_part, is_digit}
use Rattle.js_lexer.specs.Runs.{starts}
use Rattle.js_units.specs.Words.{reserved_words}
use Rattle.js_lexer.specs.Tables.{is_among, marks, refused_marks}
use Rattle.js_lexer.specs.Numbers.{IsNumeral, max_safe}
use Rattle.js_lexer.specs.Texts.{IsText}
use Rattle.js_lexer.specs.Patterns.{IsPattern}
use Rattle.js_lexer.specs.declared.token.Goal.{Goal}
use Rattle.js_lexer.specs.declared.token.Goal.TheVariants as goals
use Rattle.js_lexer.specs.declared.token.TokenKind.TheVariants as k
use Rattle.js_lexer.specs.declared.token.Lexeme.{Lexeme}
use Rattle.js_lexer.specs.declared.token.Lexeme.TheVariants as lexeme

-- the spelling of a name, which is reserved or not (sections 12.7.1 and 12.7.2)
pub record IsName (reserved : Bool) (units rest : List ℕ) : Type 0 where
  pub name : List ℕ
  pub units_are : units ≡ name ++ rest
  pub begins : starts is_name_start name ≡ true
  pub goes_on : list_all is_name_part name ≡ true
  pub reserved_is : is_among reserved_words name ≡ reserved

-- a `/` is a mark, or begins one, only where the goal is division
abbrev pub permits : Goal → List ℕ → Bool
permits goals.Division mark = true
permits goals.Pattern mark = not (starts (λ u. u == 47) mark)

-- a punctuator (section 12.8)
pub record IsMark (goal : Goal) (units rest : List ℕ) : Type 0 where
  pub mark : List ℕ
  pub units_are : units ≡ mark ++ rest
  pub is_mark : is_among marks mark ≡ true
  pub is_permitted : permits goal mark ≡ true

-- a mark that is refused; `-->` at the start of a line (section B.1.1); `?.` that no digit follows
abbrev pub is_refused : Bool → List ℕ → List ℕ → Bool
is_refused starts_line mark rest =
    is_among refused_marks mark || (starts_line && bytes_eq mark (codes "-->")) || (bytes_eq mark (codes "?.") && not (starts is_digit rest))

pub record IsRefused (starts_line : Bool) (units rest : List ℕ) : Type 0 where
  pub mark : List ℕ
  pub units_are : units ≡ mark ++ rest
  pub is_refused : is_refused starts_line mark rest ≡ true

-- The units begin with the lexeme, and the rest stands behind it.
abbrev pub Spells : Goal → Bool → Lexeme → List ℕ → List ℕ → Type 0
Spells goal starts_line (lexeme.Token k.Name) units rest = IsName false units rest
Spells goal starts_line (lexeme.Token k.Word) units rest = IsName true units rest
Spells goal starts_line (lexeme.Token k.Number) units rest = (value : ℕ) × IsNumeral units value rest × (value ≤ max_safe)
Spells goal starts_line (lexeme.Token k.WideNumber) units rest = (value : ℕ) × IsNumeral units value rest × (max_safe < value)
Spells goal starts_line (lexeme.Token k.Text) units rest = (value : List ℕ) × IsText units value rest
Spells goal starts_line (lexeme.Token k.Pattern) units rest = (goal ≡ goals.Pattern) × ((body : List ℕ) × (flags : List ℕ) × IsPattern units body flags rest)
Spells goal starts_line (lexeme.Token k.Mark) units rest = IsMark goal units rest
Spells goal starts_line (lexeme.Token k.Finish) units rest = (units ≡ []) × (rest ≡ [])
Spells goal starts_line lexeme.Refused units rest = IsRefused starts_line units rest

-- Such a lexeme, with none that is longer.
pub record IsLongest (goal : Goal) (starts_line : Bool) (x : Lexeme) (units rest : List ℕ) : Type 0 where
  pub spelt : Spells goal starts_line x units rest
  pub longest : (other : Lexeme) (behind : List ℕ) → Spells goal starts_line other units behind → length rest ≤ length behind
