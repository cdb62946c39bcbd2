-- What is read is what reading answers.
use Rattle.std.proofs.Common.{◌≡◌, ℕ, List, [], ◌∷◌, refl, sym, ap, ◌∙◌}
use Rattle.std.specs.Prelude.{Result, Ok, Err}
use Rattle.js_ast.specs.declared.statement.Stmt.{Stmt}
use Rattle.js_grammar.specs.declared.token.Token.{Token}
use Rattle.js_grammar.specs.Grammar.{Shape}
use Rattle.js_reading.specs.declared.mode.Parser.{Parser}
use Rattle.js_reading.specs.Reading.{start as start_state, IsRead, reads}
use Rattle.js_laws.proofs.Complete.{complete}

pub read_is : (P : ℕ → Type 0) (ts : List Token) (p : Parser) (body : List Stmt) → IsRead P ts p body → reads ts p ≡ Ok body
read_is P [] p body r = rw r refl
read_is P (t ∷ ts) p body r = rw r.1 (read_is P ts r.0 body r.3)

abbrev script_in : Result (List Stmt) (List Token) → List Stmt
script_in (Ok body) = body
script_in (Err left) = []

-- no tokens spell two scripts
pub one_script : (ts : List Token) (a b : List Stmt) → Shape ts a → Shape ts b → a ≡ b
one_script ts a b h i = ap script_in (sym (read_is (λ n. Unit {0}) ts start_state a (complete (λ n. Unit {0}) ts a h)) ∙ read_is (λ n. Unit {0}) ts start_state b (complete (λ n. Unit {0}) ts b i))
