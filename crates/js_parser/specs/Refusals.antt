-- This project's own: where, and for which reason, a text is refused.
use Rattle.std.specs.Prelude.{◌≡◌, ◌<◌, ◌≤◌, ℕ, true, false, List, [], ◌∷◌, ◌++◌, All, Some, Result, Ok, Err}
use Rattle.std.specs.Str.{IsUtf8, IsValidUpTo}
use Rattle.js_units.specs.CodeUnits.{code_units}
use Rattle.js_ast.specs.declared.statement.Script.{Script}
use Rattle.js_ast.specs.declared.statement.Stmt.{Stmt}
use Rattle.js_early.specs.Early.{early_places, IsLeast}
use Rattle.js_grammar.specs.Grammar.{Shape, Viable}
use Rattle.js_grammar.specs.declared.token.Token.{Token}
use Rattle.js_lexer.specs.Tokens.{IsNext, Next}
use Rattle.js_lexer.specs.declared.token.Goal.{Goal}
use Rattle.js_lexer.specs.declared.token.Token.{Token as Lexed}
use Rattle.js_lexer.specs.declared.token.LexRefusal.{LexRefusal}
use Rattle.js_lexer.specs.declared.token.TokenKind.TheVariants as lexed
use Rattle.js_reading.specs.declared.mode.Parser.{Parser}
use Rattle.js_reading.specs.Reading.{step, nesting, start}
use Rattle.js_parser.specs.Places.{byte_at}
use Rattle.js_parser.specs.Tokens.{IsToken}
use Rattle.js_parser.specs.Spelling.{IsSpelling, IsSafe, is_safe}
use Rattle.js_parser.specs.declared.refusal.ScriptRefusal.{ScriptRefusal}
use Rattle.js_parser.specs.declared.refusal.ScriptRefusal.TheVariants as refusal

-- the tokens from the beginning of the text up to a place, each `/` that begins no comment read at either goal
pub data IsFront (text : List ℕ) : List Token → ℕ → Type 0 where
  front_none : IsFront text [] 0
  front_more : (ts : List Token) (end : ℕ) (goal : Goal) (t : Lexed) (token : Token) → IsFront text ts end → IsToken text end goal t token → IsFront text (ts ++ token ∷ []) t.end

-- the tokens lead from one state to another, and the nesting of each of them is at most 200
abbrev pub IsReadTo : List Token → Parser → Parser → Type 0
IsReadTo [] p q = p ≡ q
IsReadTo (t ∷ ts) p q = (m : Parser) × (step p t ≡ Some m) × (nesting m ≤ 200) × IsReadTo ts m q

-- some script begins with these tokens, of which none is a wide number and none nests too deep
pub record IsFair (text : List ℕ) (ts : List Token) (end : ℕ) (p : Parser) : Type 0 where
  pub front : IsFront text ts end
  pub viable : Viable ts
  pub safe : All IsSafe ts
  pub shallow : IsReadTo ts start p

-- where the next token, the end, or what is neither begins
abbrev pub start_at : Result Lexed LexRefusal → ℕ
start_at (Ok t) = t.start
start_at (Err r) = r.at

-- behind a fair beginning no script goes on with a token there, and none ends
pub record IsSyntax (text : List ℕ) (at : ℕ) : Type 0 where
  pub tokens : List Token
  pub end : ℕ
  pub state : Parser
  pub fair : IsFair text tokens end state
  pub goal : Goal
  pub next : Result Lexed LexRefusal
  pub next_is : Next text end goal next
  pub at_is : at ≡ byte_at text (start_at next)
  pub no_token : (other : Goal) (t : Lexed) (token : Token) → IsToken text end other t token → Viable (tokens ++ token ∷ []) → ⊥
  pub no_end : (other : Goal) (t : Lexed) → IsNext text end other t → t.kind ≡ lexed.Finish → (body : List Stmt) → Shape tokens body → ⊥

-- behind a fair beginning some script goes on with that token
pub record IsNamed (text : List ℕ) (at : ℕ) (token : Token) (p : Parser) : Type 0 where
  pub tokens : List Token
  pub end : ℕ
  pub fair : IsFair text tokens end p
  pub goal : Goal
  pub t : Lexed
  pub token_is : IsToken text end goal t token
  pub viable : Viable (tokens ++ token ∷ [])
  pub at_is : at ≡ token.start

abbrev pub IsWide : List ℕ → ℕ → Type 0
IsWide text at = (token : Token) × (p : Parser) × IsNamed text at token p × (is_safe token.kind ≡ false)

abbrev pub IsDeep : List ℕ → ℕ → Type 0
IsDeep text at = (token : Token) × (p : Parser) × (q : Parser) × IsNamed text at token p × (is_safe token.kind ≡ true) × (step p token ≡ Some q) × (200 < nesting q)

abbrev pub IsRefusedIn : List ℕ → ScriptRefusal → Type 0
IsRefusedIn text (refusal.Syntax at) = IsSyntax text at
IsRefusedIn text (refusal.WideNumber at) = IsWide text at
IsRefusedIn text (refusal.TooDeep at) = IsDeep text at
IsRefusedIn text _ = ⊥

-- all is spelt, but some names are declared where they may not be, and the least of their places is this
pub record IsEarly (text : List ℕ) (at : ℕ) : Type 0 where
  pub script : Script
  pub spelt : IsSpelling text script.body
  pub least : IsLeast (early_places script) (Some at)

-- the reason of a refusal, with its place
abbrev pub IsRefusedBy : List ℕ → ScriptRefusal → Type 0
IsRefusedBy bytes refusal.NoMemory = Unit {0}
IsRefusedBy bytes (refusal.Utf8 at) = (IsUtf8 bytes → ⊥) × IsValidUpTo bytes at
IsRefusedBy bytes (refusal.EarlyName at) = IsUtf8 bytes × IsEarly (code_units bytes) at
IsRefusedBy bytes e = IsUtf8 bytes × IsRefusedIn (code_units bytes) e

-- the same, where memory didn't run out
abbrev pub IsReason : List ℕ → ScriptRefusal → Type 0
IsReason bytes refusal.NoMemory = ⊥
IsReason bytes e = IsRefusedBy bytes e

abbrev pub IsRefused : List ℕ → Result Script ScriptRefusal → Type 0
IsRefused bytes (Ok script) = Unit {0}
IsRefused bytes (Err e) = IsRefusedBy bytes e
