-- What is read is spelt.
use Rattle.std.proofs.Common.{◌≡◌, ℕ, ◌≤◌, List, [], ◌∷◌, Option, Some, sym, subst, arith}
use Rattle.js_ast.specs.declared.statement.Stmt.{Stmt}
use Rattle.js_grammar.specs.declared.token.Token.{Token}
use Rattle.js_grammar.specs.Phrases.{outermost}
use Rattle.js_grammar.specs.Grammar.{Shape, ShallowShape}
use Rattle.js_grammar.specs.Grammar.{IsStmts}
use Rattle.js_reading.specs.declared.mode.Parser.{Parser}
use Rattle.js_reading.specs.Reading.{step, start, nesting, IsRead, IsReadWhole, IsReadShallow}
use Rattle.js_laws.proofs.Left.{Left, Next}
use Rattle.js_laws.proofs.BackEnds.{end_left, back}

module _ (P : ℕ → Type 0) (tree : List Stmt) where
  pub left_spelt : (ts : List Token) → Left P tree start ts → IsStmts P 0 outermost ts tree []
  left_spelt ts l = subst (λ (z : List Stmt). IsStmts P 0 outermost ts z []) l.3.1 (subst (λ (z : List Token). IsStmts P 0 outermost ts l.0 z) l.3.0 l.2)

module _ (P : ℕ → Type 0) (down : (m n : ℕ) → m ≤ n → P n → P m) (tree : List Stmt) where
  pub step_back : (p : Parser) (t : Token) (q : Parser) (ts : List Token) → step p t ≡ Some q → P (nesting q) → Left P tree q ts → Left P tree p (t ∷ ts)
  step_back p t q ts e n l = back P down tree p t ts (subst (λ (o : Option Parser). Next P tree o ts) (sym e) (n, l))

  -- from any state
  pub read_left : (ts : List Token) (p : Parser) → IsRead P ts p tree → Left P tree p ts
  read_left [] p h = end_left P tree p h
  read_left (t ∷ ts) p h = step_back p t h.0 ts h.1 h.2 (read_left ts h.0 h.3)

  -- from the start on
  pub read_spelt : (ts : List Token) → IsRead P ts start tree → IsStmts P 0 outermost ts tree []
  read_spelt ts h = left_spelt P tree ts (read_left ts start h)

pub whole_sound : (ts : List Token) (body : List Stmt) → IsReadWhole ts body → Shape ts body
whole_sound ts body h = read_spelt (λ n. Unit {0}) (λ m n l u. tt) body ts h

pub shallow_sound : (ts : List Token) (body : List Stmt) → IsReadShallow ts body → ShallowShape ts body
shallow_sound ts body h = read_spelt (λ n. n ≤ 200) (λ m n l u. omega arith) body ts h
