-- This project's own: what reading a text answers, token by token from a place and a state on.
use Rattle.std.specs.Prelude.{◌≡◌, ℕ, nat_lt, Bool, true, false, cond, List, Option, Some, None, Result, Ok, Err}
use Rattle.js_units.specs.declared.decoding.Utf8Refusal.{Utf8Refusal}
use Rattle.js_units.specs.declared.decoding.Utf8Refusal.TheVariants as decoding
use Rattle.js_ast.specs.declared.statement.Stmt.{Stmt}
use Rattle.js_step_operands.specs.declared.stop.Stop.{Stop}
use Rattle.js_step_operands.specs.declared.stop.Stop.TheVariants as stop
use Rattle.js_grammar.specs.declared.token.Token.{Token}
use Rattle.js_lexer.specs.Tokens.{IsNext, IsNone}
use Rattle.js_lexer.specs.declared.token.Token.{Token as Lexed}
use Rattle.js_lexer.specs.declared.token.LexRefusal.{LexRefusal}
use Rattle.js_lexer.specs.declared.token.TokenKind.{TokenKind as LexedKind}
use Rattle.js_lexer.specs.declared.token.TokenKind.TheVariants as lexed
use Rattle.js_reading.specs.declared.mode.Parser.{Parser}
use Rattle.js_reading.specs.Reading.{step, ends, nesting}
use Rattle.js_parser.specs.Places.{byte_at}
use Rattle.js_parser.specs.Tokens.{IsToken, goal_of}
use Rattle.js_parser.specs.declared.refusal.ScriptRefusal.{ScriptRefusal}
use Rattle.js_parser.specs.declared.refusal.ScriptRefusal.TheVariants as refusal

abbrev pub Outcome : Type 0
Outcome = Result (List Stmt) ScriptRefusal

abbrev pub is_wide : LexedKind → Bool
is_wide lexed.WideNumber = true
is_wide _ = false

-- the refusal of bytes that give no text
abbrev pub undecoded : Utf8Refusal → ScriptRefusal
undecoded (decoding.Bad at) = refusal.Utf8 at
undecoded decoding.NoMemory = refusal.NoMemory

-- the refusal where a step isn't taken
abbrev pub stopped : Stop → ℕ → ScriptRefusal
stopped stop.Syntax at = refusal.Syntax at
stopped stop.NoMemory at = refusal.NoMemory

-- the refusal at a token behind which this state is
abbrev pub refusal_of : Bool → ℕ → Parser → Option ScriptRefusal
refusal_of wide at q = cond wide (Some (refusal.WideNumber at)) (cond (nat_lt 200 (nesting q)) (Some (refusal.TooDeep at)) None)

abbrev pub unless_refused : Option ScriptRefusal → Parser → Result Parser ScriptRefusal
unless_refused None q = Ok q
unless_refused (Some e) q = Err e

-- what the code's step at a token comes to
abbrev pub judged : Bool → ℕ → Result Parser Stop → Result Parser ScriptRefusal
judged wide at (Ok q) = unless_refused (refusal_of wide at q) q
judged wide at (Err s) = Err (stopped s at)

-- the refusal at a token that comes first, or the state behind it
abbrev pub taken_by : Bool → ℕ → Option Parser → Result Parser ScriptRefusal
taken_by wide at None = Err (refusal.Syntax at)
taken_by wide at (Some q) = unless_refused (refusal_of wide at q) q

abbrev pub taken : Bool → Parser → Token → Result Parser ScriptRefusal
taken wide p token = taken_by wide token.start (step p token)

-- the script, if it may end here
abbrev pub over_by : ℕ → Option (List Stmt) → Outcome
over_by at None = Err (refusal.Syntax at)
over_by at (Some body) = Ok body

abbrev pub over : Parser → ℕ → Outcome
over p at = over_by at (ends p)

pub data IsOutcome (text : List ℕ) : ℕ → Parser → Outcome → Type 0 where
  -- neither a token nor the end follows
  outcome_none : (at : ℕ) (p : Parser) (r : LexRefusal) → IsNone text at (goal_of p.mode) r → IsOutcome text at p (Err (refusal.Syntax (byte_at text r.at)))
  -- the end follows
  outcome_over : (at : ℕ) (p : Parser) (t : Lexed) → IsNext text at (goal_of p.mode) t → t.kind ≡ lexed.Finish → IsOutcome text at p (over p (byte_at text t.start))
  -- a token follows that is refused
  outcome_refused : (at : ℕ) (p : Parser) (t : Lexed) (token : Token) (e : ScriptRefusal) → IsToken text at (goal_of p.mode) t token → taken (is_wide t.kind) p token ≡ Err e → IsOutcome text at p (Err e)
  -- one token more
  outcome_more : (at : ℕ) (p q : Parser) (t : Lexed) (token : Token) (result : Outcome) → IsToken text at (goal_of p.mode) t token → taken (is_wide t.kind) p token ≡ Ok q → IsOutcome text t.end q result → IsOutcome text at p result
