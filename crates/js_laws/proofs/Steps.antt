-- Tokens that lead from a state to another, one step or many.
use Rattle.std.proofs.Common.{◌≡◌, ℕ, false, List, [], ◌∷◌, Some, refl, sym, subst}
use Rattle.js_ast.specs.declared.statement.Stmt.{Stmt}
use Rattle.js_grammar.specs.declared.token.Token.{Token}
use Rattle.js_grammar.specs.declared.token.TokenKind.{TokenKind}
use Rattle.js_grammar.specs.Phrases.{Begins, Beside}
use Rattle.js_reading.specs.declared.frame.Frame.{Frame}
use Rattle.js_reading.specs.declared.mode.Mode.{Mode}
use Rattle.js_reading.specs.declared.mode.Parser.{Parser}
use Rattle.js_reading.specs.Operands.{at}
use Rattle.js_reading.specs.Reading.{step_in, step as turn, ends, nesting, IsRead}

-- a script that is read from the second state on is read from the first on
pub record Leads (P : ℕ → Type 0) (ts : List Token) (p : Parser) (rest : List Token) (q : Parser) : Type 0 where
  pub reads : (body : List Stmt) → IsRead P rest q body → IsRead P ts p body

pub stays : (P : ℕ → Type 0) (ts : List Token) (p : Parser) → Leads P ts p ts p
stays P ts p = record { reads = λ body r. r }

infixr 5 ◌⟫◌
pub ◌⟫◌ : {P : ℕ → Type 0} {ts : List Token} {p : Parser} {mid : List Token} {q : Parser} {rest : List Token} {r : Parser} → Leads P ts p mid q → Leads P mid q rest r → Leads P ts p rest r
f ⟫ g = record { reads = λ body r. f.reads body (g.reads body r) }

-- one token
pub take : {P : ℕ → Type 0} {ts : List Token} {kind : TokenKind} {site : ℕ} {rest : List Token} (h : Begins ts kind site rest) {m : Mode} {ks : List Frame} {q : Parser} → step_in m ks h.line site kind ≡ Some q → {d : ℕ} → P d → nesting q ≡ d → Leads P ts (at m ks) rest q
take {P} {ts} {kind} {site} {rest} h {m} {ks} {q} e {d} n f = record { reads = λ body r. rw h.begins (q, e, subst P (sym f) n, r) }

pub take_beside : {P : ℕ → Type 0} {ts : List Token} {kind : TokenKind} {site : ℕ} {rest : List Token} → Beside ts kind site rest → {m : Mode} {ks : List Frame} {q : Parser} → step_in m ks false site kind ≡ Some q → {d : ℕ} → P d → nesting q ≡ d → Leads P ts (at m ks) rest q
take_beside {P} {ts} {kind} {site} {rest} h {m} {ks} {q} e {d} n f = record { reads = λ body r. rw h (q, e, subst P (sym f) n, r) }

-- another end state
pub ending_at : {P : ℕ → Type 0} {ts : List Token} {p : Parser} {rest : List Token} {q r : Parser} → Leads P ts p rest q → q ≡ r → Leads P ts p rest r
ending_at {P} {ts} {p} {rest} {q} {r} f e = subst (λ (x : Parser). Leads P ts p rest x) e f

-- states that take the same steps
pub record Same (rest : List Token) (p q : Parser) : Type 0 where
  pub steps : (t : Token) (left : List Token) → rest ≡ t ∷ left → (r : Parser) → turn q t ≡ Some r → turn p t ≡ Some r
  pub ends : rest ≡ [] → (body : List Stmt) → ends q ≡ Some body → ends p ≡ Some body

pub same_by : (P : ℕ → Type 0) (rest : List Token) (p q : Parser) → Same rest p q → (body : List Stmt) → IsRead P rest q body → IsRead P rest p body
same_by P [] p q s body r = s.ends refl body r
same_by P (t ∷ ts) p q s body r = (r.0, s.steps t ts refl r.0 r.1, r.2, r.3)

pub alike : {P : ℕ → Type 0} {rest : List Token} {p q : Parser} → Same rest p q → Leads P rest p rest q
alike {P} {rest} {p} {q} s = record { reads = λ body r. same_by P rest p q s body r }
