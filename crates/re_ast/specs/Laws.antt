-- What the laws of the successes say (this project's own).
use Rattle.std.specs.Prelude.{ℕ, ◌-◌, Bool, true, not, ◌||◌, if◌then◌else◌, ◌==◌, nat_lt, List, [], ◌∷◌, length, filter, flat_map, Option, Some, MatchOption, slice_get, ◌≡◌, ◌≤◌, ◌<◌}
use Rattle.re_ast.specs.declared.patterns.Flags.{Flags}
use Rattle.re_ast.specs.declared.patterns.Pattern.{Pattern}
use Rattle.re_ast.specs.Execution.{Match, successes_at}
use Rattle.re_ast.specs.Tree.{Tree, repeated}
use Rattle.re_ast.specs.Characters.{canonical, in_ranges}
use Rattle.re_ast.specs.Successes.{State, succ, stay, clear, less, is_none_left, prefer}

-- P holds of each
abbrev pub Each : (State → Type 0) → List State → Type 0
Each P [] = Unit {0}
Each P (t ∷ ts) = P t × Each P ts

-- at the place `at` or behind it, and within the text
abbrev pub LiesAhead : List ℕ → ℕ → State → Type 0
LiesAhead s at t = (at ≤ t.place) × (t.place ≤ length s)

-- the list of a repetition by that of one turn and of the repetition with one turn less (22.2.2.3.1)
abbrev pub Unfolds : Flags → List ℕ → Tree → ℕ → Option ℕ → Bool → ℕ → ℕ → State → Type 0
Unfolds f s body min max lazy first past st =
    succ f s (repeated body min max lazy first past) st
    ≡ (if is_none_left max then stay st
    else (let turns : List State =
    flat_map (succ f s (repeated body (min - 1) (less max) lazy first past))
    (filter (λ t. nat_lt 0 min || not (t.place == st.place)) (succ f s body (clear first past st))) in
    if nat_lt 0 min then turns else prefer lazy turns (stay st)))

-- a member has the canonical unit of u
abbrev pub IsLike : Bool → List (ℕ × ℕ) → ℕ → Type 0
IsLike i rs u = (w : ℕ) × (in_ranges rs w ≡ true) × (canonical i w ≡ canonical i u)

-- no match begins at a place from the first up to the second
abbrev pub NoneBegins : Pattern → List ℕ → ℕ → ℕ → Type 0
NoneBegins p s from to = (i : ℕ) → from ≤ i → i < to → successes_at p s i ≡ []

-- the match begins at the least place that has one, and is the first success there
pub record IsFirst (p : Pattern) (s : List ℕ) (from to : ℕ) (m : Match) : Type 0 where
  pub least : NoneBegins p s from m.start
  pub from_start : from ≤ m.start
  pub within : m.start < to
  pub first : slice_get (successes_at p s m.start) 0 ≡ Some (record { place = m.end; captures = m.captures })

-- what one search answers
abbrev pub Finds : Pattern → List ℕ → ℕ → ℕ → Option Match → Type 0
Finds p s from to answer = MatchOption answer (NoneBegins p s from to) (IsFirst p s from to)
