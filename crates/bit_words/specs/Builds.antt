-- What a call that adds variables and clauses to a formula makes of it (this project's own).
-- Variables are the bits; the values of all of them are a function, of which a formula reads the first ones.
use Rattle.std.specs.Prelude.{ℕ, ℤ, Bool, true, false, not, ◌&&◌, ◌||◌, ◌≡◌, ◌+◌, ◌≤◌, List, [], ◌∷◌, ◌++◌, length, take, All}
use Rattle.cnf_core.specs.Literals.{Names, Solves, lit_true}
use Rattle.cnf_core.specs.declared.clauses.Cnf.{Cnf}

-- a value for each variable
abbrev pub Values : Type 0
Values = ℕ → Bool

-- the variables 1 to n have the same values
abbrev pub AgreeUpTo : ℕ → Values → Values → Type 0
AgreeUpTo n v w = (k : ℕ) → 1 ≤ k → k ≤ n → v k ≡ w k

-- the earlier variables and clauses stand
pub record Stands (old new : Cnf) : Type 0 where
  pub variables : old.variables ≤ new.variables
  pub clauses : take (length old.clauses) new.clauses ≡ old.clauses

-- these values of the first `old` variables go on to values of the first `new` ones that make the added clauses true, and to
-- no others
pub record GoesOn (old new : ℕ) (added : List (List ℤ)) (v : Values) : Type 0 where
  pub values : Values
  pub agree : AgreeUpTo old v values
  pub solves : Solves values added
  pub only : (w : Values) → AgreeUpTo old v w → Solves w added → AgreeUpTo new values w

-- Variables and clauses were added such that every assignment of the earlier bits has exactly one of the new ones. At most
-- `most` variables were added, these literals name variables, and the fact holds at all values that make the added clauses true.
pub record Built (old new : Cnf) (most : ℕ) (lits : List ℤ) (Fact : Values → Type 0) : Type 0 where
  pub added : List (List ℤ)
  pub clauses : new.clauses ≡ old.clauses ++ added
  pub variables : old.variables ≤ new.variables
  pub few : new.variables ≤ old.variables + most
  -- the added clauses speak of these variables alone
  pub own : (v w : Values) → AgreeUpTo new.variables v w → Solves v added → Solves w added
  pub one : (v : Values) → GoesOn old.variables new.variables added v
  pub names : All (Names new.variables) lits
  pub fact : (v : Values) → Solves v added → Fact v

-- a literal was made, whose value is this function of the earlier bits
abbrev pub IsGate : Cnf → Cnf → ℕ → ℤ → (Values → Bool) → Type 0
IsGate old new most lit f = Built old new most (lit ∷ []) (λ v. lit_true v lit ≡ f v)

-- exactly one holds
abbrev pub differ : Bool → Bool → Bool
differ true b = not b
differ false b = b

-- at least two hold
abbrev pub majority : Bool → Bool → Bool → Bool
majority true b c = b || c
majority false b c = b && c
