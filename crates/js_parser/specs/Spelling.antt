-- Which bytes spell which script (ECMA-262, sections 11.1, 12 and 16.1).
use Rattle.std.specs.Prelude.{◌≡◌, ℕ, ◌==◌, not, Bool, true, List, [], ◌∷◌, All}
use Rattle.std.specs.Str.{IsUtf8}
use Rattle.js_units.specs.CodeUnits.{code_units}
use Rattle.js_ast.specs.declared.statement.Script.{Script}
use Rattle.js_ast.specs.declared.statement.Stmt.{Stmt}
use Rattle.js_early.specs.Early.{early_places}
use Rattle.js_grammar.specs.Grammar.{ShallowShape}
use Rattle.js_grammar.specs.declared.token.Token.{Token}
use Rattle.js_grammar.specs.declared.token.TokenKind.{TokenKind}
use Rattle.js_grammar.specs.declared.token.TokenKind.TheVariants as k
use Rattle.js_lexer.specs.Tokens.{IsNext}
use Rattle.js_lexer.specs.declared.token.Goal.{Goal}
use Rattle.js_lexer.specs.declared.token.Token.{Token as Lexed}
use Rattle.js_lexer.specs.declared.token.TokenKind.TheVariants as lexed
use Rattle.js_parser.specs.Tokens.{IsToken, wide}

-- The tokens of a text from a place on, with white space, line ends and comments between them. Each `/` that begins no
-- comment may be read at either goal.
pub data IsTokens (text : List ℕ) : ℕ → List Token → Type 0 where
  tokens_none : (at : ℕ) (goal : Goal) (t : Lexed) → IsNext text at goal t → t.kind ≡ lexed.Finish → IsTokens text at []
  tokens_more : (at : ℕ) (goal : Goal) (t : Lexed) (token : Token) (ts : List Token) → IsToken text at goal t token → IsTokens text t.end ts → IsTokens text at (token ∷ ts)

-- no number is above 2^53 - 1
abbrev pub is_safe : TokenKind → Bool
is_safe (k.Number n) = not (n == wide)
is_safe _ = true

abbrev pub IsSafe : Token → Type 0
IsSafe t = is_safe t.kind ≡ true

-- no token nests deeper than 200, and no number is wide
pub record IsSpelling (text : List ℕ) (body : List Stmt) : Type 0 where
  pub tokens : List Token
  pub tokens_are : IsTokens text 0 tokens
  pub shape : ShallowShape tokens body
  pub safe : All IsSafe tokens

-- the bytes are UTF-8, their units spell the script, and no name is declared where it may not be
pub record Spells (bytes : List ℕ) (script : Script) : Type 0 where
  pub utf8 : IsUtf8 bytes
  pub spelt : IsSpelling (code_units bytes) script.body
  pub names : early_places script ≡ []
