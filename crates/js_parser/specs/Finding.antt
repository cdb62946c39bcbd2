-- This project's own: what follows a place of a text.
use Rattle.std.specs.Prelude.{◌≡◌, ◌≤◌, ◌<◌, ℕ, Bool, List, length, Result, Ok, Err}
use Rattle.js_grammar.specs.declared.token.Token.{Token}
use Rattle.js_lexer.specs.Tokens.{IsNext, IsNone}
use Rattle.js_lexer.specs.declared.token.Goal.{Goal}
use Rattle.js_lexer.specs.declared.token.Token.{Token as Lexed}
use Rattle.js_lexer.specs.declared.token.LexRefusal.{LexRefusal}
use Rattle.js_lexer.specs.declared.token.TokenKind.TheVariants as lexed
use Rattle.js_parser.specs.Places.{byte_at}
use Rattle.js_parser.specs.Tokens.{IsToken}
use Rattle.js_parser.specs.Outcomes.{is_wide}
use Rattle.js_parser.specs.declared.refusal.ScriptRefusal.{ScriptRefusal}
use Rattle.js_parser.specs.declared.refusal.ScriptRefusal.TheVariants as refusal
use Rattle.js_parser.specs.declared.finding.Found.{Found}
use Rattle.js_parser.specs.declared.finding.Found.TheVariants as found

pub record IsOver (text : List ℕ) (at : ℕ) (goal : Goal) (place : ℕ) : Type 0 where
  pub t : Lexed
  pub next : IsNext text at goal t
  pub finish : t.kind ≡ lexed.Finish
  pub place_is : place ≡ byte_at text t.start

pub record IsTaken (text : List ℕ) (at : ℕ) (goal : Goal) (token : Token) (wide : Bool) (end bytes : ℕ) : Type 0 where
  pub t : Lexed
  pub token_is : IsToken text at goal t token
  pub wide_is : wide ≡ is_wide t.kind
  pub end_is : end ≡ t.end
  pub further : at < end
  pub within : end ≤ length text
  pub bytes_are : bytes ≡ byte_at text end

pub record IsNothing (text : List ℕ) (at : ℕ) (goal : Goal) (place : ℕ) : Type 0 where
  pub r : LexRefusal
  pub none : IsNone text at goal r
  pub place_is : place ≡ byte_at text r.at

abbrev pub IsFound : List ℕ → ℕ → Goal → Result Found ScriptRefusal → Type 0
IsFound text at goal (Ok (found.Over place)) = IsOver text at goal place
IsFound text at goal (Ok (found.Token token wide end bytes)) = IsTaken text at goal token wide end bytes
IsFound text at goal (Err (refusal.Syntax place)) = IsNothing text at goal place
IsFound text at goal (Err refusal.NoMemory) = Unit {0}
IsFound text at goal (Err e) = ⊥
