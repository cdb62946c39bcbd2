-- Clauses at rest, and unit propagation (this project's own). The clause of a number is that of `numbered`, from 1 on.
use Rattle.std.specs.Prelude.{ℕ, ◌++◌, ℤ, Bool, true, false, List, ◌≡◌, ◌≢◌, Some, None, All}
use Rattle.cnf_core.specs.Validity.{is_falsified, unit_of, numbered}
use Rattle.sat_core.specs.declared.trail.Entry.{Entry}
use Rattle.sat_core.specs.Trails.{Assigned, IsTrail, is_false}

-- the clause isn't false and has no unit
abbrev pub RestsAt : (ℤ → Bool) → List ℤ → Type 0
RestsAt p c = (is_falsified p c ≡ false) × (unit_of p c ≡ None)

-- no clause is false or has a unit
abbrev pub IsRest : List (List ℤ) → (ℤ → Bool) → Type 0
IsRest known p = (n : ℕ) (c : List ℤ) → numbered known n ≡ Some c → RestsAt p c

-- this clause is false
abbrev pub IsConflict : List (List ℤ) → (ℤ → Bool) → ℕ → Type 0
IsConflict known p n = (c : List ℤ) × (numbered known n ≡ Some c) × (is_falsified p c ≡ true)

-- The trail grew by entries each of which was free, and the unit of its reason, when it was added.
abbrev pub Grows : List (List ℤ) → Assigned → Assigned → Type 0
Grows known old new = (more : List Entry) × (new.entries ≡ old.entries ++ more) × IsTrail known (is_false old) more × All (λ e. e.reason ≢ None) more
