-- Which literals are false (this project's own).
use Rattle.std.specs.Prelude.{ℕ, ◌+◌, ◌*◌, ◌-◌, ◌≡◌, ℤ, pos, neg_ℤ, unsigned_abs, int_lt, Bool, true, false, not, if◌then◌else◌, List, replicate, Option, Some, None, slice_get, unwrap_or}
use Rattle.std.specs.List.{list_all}
use Rattle.cnf_core.specs.Validity.{also}

-- literals of so many variables, and for each place whether the literal there is marked as false
pub record Marking : Type 0 where
  pub variables : ℕ
  pub marked : List Bool

-- each literal has a place of its own
abbrev pub place : ℤ → ℕ
place l = if int_lt l (pos 0) then 2 * unsigned_abs l - 1 else 2 * unsigned_abs l

-- the literal is marked as false
abbrev pub is_false : Marking → ℤ → Bool
is_false marking l = unwrap_or (slice_get marking.marked (place l)) false

-- none is
abbrev pub cleared : ℕ → Marking
cleared variables = record { variables = variables; marked = replicate (2 * variables + 1) false }

-- no literal of the clause has an opposite that is false
abbrev pub none_opposed : (ℤ → Bool) → List ℤ → Bool
none_opposed refused clause = list_all (λ l. not (refused (neg_ℤ l))) clause

-- after a hint with this unit: where there is none it failed, else the unit's opposite is false too
abbrev pub TookHint : Option ℤ → Marking → Marking → Bool → Type 0
TookHint None before after took = took ≡ false
TookHint (Some l) before after took = (took ≡ true) × (is_false after ≡ also (is_false before) (neg_ℤ l))
