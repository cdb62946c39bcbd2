-- Which declarations and budgets a file can make.
use Rattle.std.specs.Prelude.{◌≡◌, ◌≤◌, ◌≤ℤ◌, ℕ, ℤ, pos, negsuc, true}
use Rattle.path_core.specs.Names.{is_name}
use Rattle.path_core.specs.Inputs.{IsRange}
use Rattle.path_core.specs.declared.bounds.Bounds.{Bounds}
use Rattle.path_core.specs.declared.bounds.Kind.{Kind}
use Rattle.path_core.specs.declared.bounds.Kind.TheVariants as kinds
use Rattle.path_core.specs.declared.bounds.Declared.{Declared}

-- a safe integer lies from -(2^53 - 1) to 2^53 - 1
pub record IsSafe (n : ℤ) : Type 0 where
  pub from : negsuc 9007199254740990 ≤ℤ n
  pub to : n ≤ℤ pos 9007199254740991

-- both ends are safe integers
pub record AreEndsSafe (low high : ℤ) : Type 0 where
  pub low_safe : IsSafe low
  pub high_safe : IsSafe high

-- the language holds each value: ends are safe integers, strings have at most 64 units
abbrev pub AreSafe : Kind → Type 0
AreSafe (kinds.Int low high) = AreEndsSafe low high
AreSafe (kinds.Text least most alphabet) = most ≤ 64

-- the name is a Name, there is a value, and the language holds each
pub record IsAccepted (declared : Declared) : Type 0 where
  pub name : is_name declared.name ≡ true
  pub range : IsRange declared.kind
  pub safe : AreSafe declared.kind

-- at least 1, and at most so many
pub record IsBudget (most n : ℕ) : Type 0 where
  pub from : 1 ≤ n
  pub to : n ≤ most

-- each budget is within its range
pub record HasBudgets (bounds : Bounds) : Type 0 where
  pub turns : IsBudget 1000000 bounds.turns
  pub paths : IsBudget 65536 bounds.paths
  pub candidates : IsBudget 65536 bounds.candidates
  pub steps : IsBudget 9007199254740991 bounds.steps
  pub width : IsBudget 1000000000 bounds.width
  pub pieces : IsBudget 64 bounds.pieces
