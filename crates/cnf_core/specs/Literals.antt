-- Literals, clauses and assignments (this project's own).
-- A literal is an integer that isn't 0: n says that variable n is true, -n that it is false. The opposite of a literal is
-- its negative. A clause is a list of literals and says that one of them is true.
use Rattle.std.specs.Prelude.{ℕ, suc, ◌^◌, ◌≤◌, ℤ, pos, negsuc, unsigned_abs, Bool, true, not, ◌≡◌, List, All}
use Rattle.std.specs.List.{list_any}

-- not 0, and at most 2^62 without its sign
abbrev pub IsLiteral : ℤ → Type 0
IsLiteral l = (1 ≤ unsigned_abs l) × (unsigned_abs l ≤ 2 ^ 62)

-- the literal names a variable from 1 to `most`
abbrev pub Names : ℕ → ℤ → Type 0
Names most l = (1 ≤ unsigned_abs l) × (unsigned_abs l ≤ most)

-- the literal is true where the variables have these values
abbrev pub lit_true : (ℕ → Bool) → ℤ → Bool
lit_true value (pos n) = value n
lit_true value (negsuc n) = not (value (suc n))

-- one of the clause's literals is true
abbrev pub clause_true : (ℕ → Bool) → List ℤ → Bool
clause_true value clause = list_any (lit_true value) clause

-- every clause is true
abbrev pub Solves : (ℕ → Bool) → List (List ℤ) → Type 0
Solves value clauses = All (λ c. clause_true value c ≡ true) clauses

-- no values make every clause true
abbrev pub HasNoModel : List (List ℤ) → Type 0
HasNoModel clauses = (value : ℕ → Bool) → Solves value clauses → ⊥
