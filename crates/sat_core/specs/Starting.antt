-- The pass over all clauses with which a search starts (this project's own).
use Rattle.std.specs.Prelude.{ℕ, ℤ, true, List, [], ◌≡◌, ◌≢◌, None, All}
use Rattle.cnf_core.specs.Validity.{among}
use Rattle.sat_core.specs.declared.trail.Entry.{Entry}
use Rattle.sat_core.specs.declared.watching.Watches.{Watches}
use Rattle.sat_core.specs.Trails.{Assigned, is_false, IsTrail, AreNamed}
use Rattle.sat_core.specs.Rest.{IsConflict}
use Rattle.sat_core.specs.States.{Stable, GuardedTo}

-- no two different literals stand in the clause
abbrev pub IsAlone : List ℤ → Type 0
IsAlone clause = (k l : ℤ) → among clause k ≡ true → among clause l ≡ true → k ≡ l

-- none is a decision
abbrev pub AreForced : List Entry → Type 0
AreForced entries = All (λ e. e.reason ≢ None) entries

-- the clauses are watched, and nothing was decided or seen to
pub record Starting (known : List (List ℤ)) (watches : Watches) (a : Assigned) : Type 0 where
  pub standing : Stable known watches a
  pub guarded : GuardedTo known watches a 0
  pub forced : AreForced a.entries

-- a clause is false, and nothing was decided
pub record Clashing (known : List (List ℤ)) (a : Assigned) (n : ℕ) : Type 0 where
  pub trail : IsTrail known (among []) a.entries
  pub named : AreNamed a.variables a.entries
  pub forced : AreForced a.entries
  pub conflict : IsConflict known (is_false a) n
