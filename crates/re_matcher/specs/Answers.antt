-- What an answer of the matcher stands for.
use Rattle.std.specs.Prelude.{ℕ, List, Some, None, ◌≡◌, ◌≤◌, ◌<◌, slice_get}
use Rattle.re_ast.specs.declared.patterns.Pattern.{Pattern}
use Rattle.re_ast.specs.Execution.{Match, successes_at}
use Rattle.re_matcher.specs.declared.caps.Caps.{Caps}

abbrev pub match_of : Caps → Match
match_of c = record { start = c.start; end = c.end; captures = c.groups.items }

-- no match begins at these places
abbrev pub IsNone : Pattern → List ℕ → ℕ → ℕ → Type 0
IsNone p s from to = (i : ℕ) → from ≤ i → i < to → slice_get (successes_at p s i) 0 ≡ None

-- no match begins before this one, which is the best at its start
pub record IsFirst (p : Pattern) (s : List ℕ) (from to : ℕ) (m : Match) : Type 0 where
  pub least : IsNone p s from m.start
  pub from_start : from ≤ m.start
  pub within : m.start < to
  pub best : slice_get (successes_at p s m.start) 0 ≡ Some (record { place = m.end; captures = m.captures })
