-- The next token of a text (ECMA-262, section 12).
use Rattle.std.specs.Prelude.{◌≤◌, ℕ, ◌==◌, ◌||◌, Bool, List, length, drop, Result, Ok, Err}
use Rattle.js_lexer.specs.Trivia.{IsTrivia}
use Rattle.js_lexer.specs.Lexemes.{IsLongest}
use Rattle.js_lexer.specs.declared.token.Goal.{Goal}
use Rattle.js_lexer.specs.declared.token.Token.{Token}
use Rattle.js_lexer.specs.declared.token.TokenKind.{TokenKind}
use Rattle.js_lexer.specs.declared.token.LexRefusal.{LexRefusal}
use Rattle.js_lexer.specs.declared.token.Lexeme.TheVariants as lexeme

-- from a place on there is trivia up to the start, with a line end in it or not
pub record IsGap (text : List ℕ) (at start : ℕ) (line_end : Bool) : Type 0 where
  pub order : at ≤ start
  pub within : start ≤ length text
  pub trivia : IsTrivia (at == 0) (drop at text) line_end (drop start text)

-- the longest lexeme at the start is the token
pub record IsNext (text : List ℕ) (at : ℕ) (goal : Goal) (t : Token) : Type 0 where
  pub gap : IsGap text at t.start t.line_before
  pub order : t.start ≤ t.end
  pub within : t.end ≤ length text
  pub longest : IsLongest goal (at == 0 || t.line_before) (lexeme.Token t.kind) (drop t.start text) (drop t.end text)

-- no token is the longest lexeme at the place of the refusal
pub record IsNone (text : List ℕ) (at : ℕ) (goal : Goal) (r : LexRefusal) : Type 0 where
  pub line_end : Bool
  pub gap : IsGap text at r.at line_end
  pub none : (kind : TokenKind) (rest : List ℕ) → IsLongest goal (at == 0 || line_end) (lexeme.Token kind) (drop r.at text) rest → ⊥

abbrev pub Next : List ℕ → ℕ → Goal → Result Token LexRefusal → Type 0
Next text at goal (Ok t) = IsNext text at goal t
Next text at goal (Err r) = IsNone text at goal r

-- some call of next_token answers this token
abbrev pub IsTokenOf : List ℕ → Token → Type 0
IsTokenOf text t = (at : ℕ) × (goal : Goal) × IsNext text at goal t
