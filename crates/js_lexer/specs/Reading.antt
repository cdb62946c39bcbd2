-- This project's own: the longest lexeme, and how it is set apart from every other.
use Rattle.std.specs.Prelude.{◌≡◌, ◌<◌, ◌⊎◌, ◌==◌, ◌&&◌, ℕ, Bool, true, false, List, [], ◌∷◌, length, Option, Some, None, if◌then◌else◌}
use Rattle.js_units.specs.Characters.{is_name_start, is_digit}
use Rattle.js_lexer.specs.Classes.{is_quote}
use Rattle.js_lexer.specs.Escapes.{ClosesAt}
use Rattle.js_lexer.specs.Bodies.{PatternEndsAt}
use Rattle.js_lexer.specs.Lexemes.{Spells, IsLongest}
use Rattle.js_lexer.specs.Words.{Found}
use Rattle.js_lexer.specs.declared.token.Goal.{Goal}
use Rattle.js_lexer.specs.declared.token.Goal.TheVariants as goals
use Rattle.js_lexer.specs.declared.token.TokenKind.{TokenKind}
use Rattle.js_lexer.specs.declared.token.TokenKind.TheVariants as k
use Rattle.js_lexer.specs.declared.token.Lexeme.{Lexeme}
use Rattle.js_lexer.specs.declared.token.Lexeme.TheVariants as lexeme
use Rattle.js_lexer.specs.declared.lexer.Family.{Family}
use Rattle.js_lexer.specs.declared.lexer.Family.TheVariants as family

abbrev pub wants_pattern : Goal → Bool
wants_pattern goals.Division = false
wants_pattern goals.Pattern = true

-- what a lexeme is by its first unit
unfoldable pub family_of : Goal → ℕ → Family
family_of goal u =
    if is_name_start u then family.Name
    else (if is_digit u then family.Number
    else (if is_quote u then family.Text
    else (if u == 47 && wants_pattern goal then family.Pattern
    else family.Mark)))

abbrev pub first_at : List ℕ → Option (ℕ × List ℕ)
first_at [] = None
first_at (u ∷ us) = Some (u, us)

abbrev pub TextFound : ℕ → List ℕ → Option Found → Type 0
TextFound quote inside (Some x) = (x.0 ≡ lexeme.Token k.Text) × ClosesAt quote inside (Some x.1)
TextFound quote inside None = ClosesAt quote inside None

abbrev pub PatternFound : List ℕ → Option Found → Type 0
PatternFound inside (Some x) = (x.0 ≡ lexeme.Token k.Pattern) × PatternEndsAt inside (Some x.1)
PatternFound inside None = PatternEndsAt inside None

-- It is spelt, and any other that is spelt there is shorter.
pub record IsBest (goal : Goal) (starts_line : Bool) (x : Lexeme) (units rest : List ℕ) : Type 0 where
  pub spelt : Spells goal starts_line x units rest
  pub others : (other : Lexeme) (behind : List ℕ) → Spells goal starts_line other units behind → (length rest < length behind) ⊎ ((other ≡ x) × (behind ≡ rest))

abbrev pub Reads : Goal → Bool → List ℕ → Option Found → Type 0
Reads goal starts_line units (Some x) = IsBest goal starts_line x.0 units x.1
Reads goal starts_line units None = (x : Lexeme) (rest : List ℕ) → Spells goal starts_line x units rest → ⊥

-- the token that is the longest lexeme, if one is
abbrev pub LongestToken : Goal → Bool → List ℕ → Option (TokenKind × List ℕ) → Type 0
LongestToken goal starts_line units (Some x) = IsBest goal starts_line (lexeme.Token x.0) units x.1
LongestToken goal starts_line units None = (kind : TokenKind) (rest : List ℕ) → IsLongest goal starts_line (lexeme.Token kind) units rest → ⊥
