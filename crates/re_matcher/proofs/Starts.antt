-- The first success is at the least start that has one.
use Rattle.std.proofs.Common.{ℕ, zero, suc, ◌+◌, ◌-◌, List, [], ◌∷◌, ◌++◌, map, ◌≡◌, ◌≤◌, ◌<◌, length, refl, arith, Bool, true, false, if◌then◌else◌, Option, Some, None, option_map, MatchOption, sym, subst, ap, ◌∙◌, slice_get}
use Rattle.std.specs.List.{flat_map, range_with_len}
use Rattle.re_ast.specs.Successes.{State}
use Rattle.re_ast.specs.Execution.{Match, match_from, successes_at, exec}
use Rattle.re_ast.specs.declared.patterns.Pattern.{Pattern}
use Rattle.re_matcher.specs.Answers.{match_of, IsNone, IsFirst}
use Rattle.re_matcher.specs.declared.caps.Caps.{Caps}

abbrev pub NoneBefore : (ℕ → List State) → ℕ → ℕ → Type 0
NoneBefore f from to = (i : ℕ) → from ≤ i → i < to → slice_get (f i) 0 ≡ None

abbrev pub all_from : (ℕ → List State) → ℕ → ℕ → List Match
all_from f a n = flat_map (λ i. map (match_from i) (f i)) (range_with_len a n)

first_at_head : (xs : List State) (i : ℕ) (t : State) (more : List Match) → slice_get xs 0 ≡ Some t → slice_get (map (match_from i) xs ++ more) 0 ≡ Some (match_from i t)
first_at_head [] i t more e = absurd (cc)
first_at_head (x ∷ xs) i t more e = search

past_empty : (xs : List State) (i : ℕ) (more : List Match) → slice_get xs 0 ≡ None → map (match_from i) xs ++ more ≡ more
past_empty [] i more e = refl
past_empty (x ∷ xs) i more e = absurd (cc)

none_after : (f : ℕ → List State) (a to : ℕ) → NoneBefore f a to → NoneBefore f (a + 1) to
none_after f a to h = λ i le lt. h i (omega arith) lt

pub found_none : (f : ℕ → List State) (n a to : ℕ) → a + n ≡ to → NoneBefore f a to → slice_get (all_from f a n) 0 ≡ None
found_none f zero a to e h = refl
found_none f (suc n) a to e h =
    ap (λ (v : List Match). slice_get v 0) (past_empty (f a) a (all_from f (a + 1) n) (h a (omega arith) (omega arith)))
    ∙ found_none f n (a + 1) to (omega arith) (none_after f a to h)

-- k is how far the start lies from a
pub found_first : (f : ℕ → List State) (k n a start : ℕ) (t : State) → k < n → a + k ≡ start → NoneBefore f a start → slice_get (f start) 0 ≡ Some t →
    slice_get (all_from f a n) 0 ≡ Some (match_from start t)
found_first f k zero a start t lt e h s = absurd (omega arith)
found_first f zero (suc n) a start t lt e h s =
    let same : a ≡ start = omega arith in
    subst (λ v. slice_get (all_from f a (suc n)) 0 ≡ Some (match_from v t)) same
    (first_at_head (f a) a t (all_from f (a + 1) n) (ap (λ v. slice_get (f v) 0) same ∙ s))
found_first f (suc k) (suc n) a start t lt e h s =
    ap (λ (v : List Match). slice_get v 0) (past_empty (f a) a (all_from f (a + 1) n) (h a (omega arith) (omega arith)))
    ∙ found_first f k n (a + 1) start t (omega arith) (omega arith) (none_after f a start h) s

how_many : (b : Bool) (from to last : ℕ) → from ≤ to → last ≡ (if b then from else to) → (if b then 1 else to - from + 1) ≡ last - from + 1
how_many true from to last w e = omega arith
how_many false from to last w e = omega arith

from_start : (b : Bool) (from to last : ℕ) → from ≤ to → last ≡ (if b then from else to) → from ≤ last
from_start true from to last w e = omega arith
from_start false from to last w e = omega arith

module _ (p : Pattern) (s : List ℕ) where
  search_is : (from last : ℕ) → from ≤ length s → last ≡ (if p.flags.sticky then from else length s) →
      exec p s from ≡ slice_get (all_from (successes_at p s) from (last - from + 1)) 0
  search_is from last w e =
      ap (λ (n : ℕ). slice_get (all_from (successes_at p s) from n) 0) (how_many p.flags.sticky from (length s) last w e)

  pub exec_is : (from last : ℕ) (r : Option Caps) → from ≤ length s → last ≡ (if p.flags.sticky then from else length s) →
      MatchOption r (IsNone p s from (last + 1)) (λ caps. IsFirst p s from (last + 1) (match_of caps)) → option_map match_of r ≡ exec p s from
  exec_is from last None w e h =
      let le : from ≤ last = from_start p.flags.sticky from (length s) last w e in
      sym (search_is from last w e ∙ found_none (successes_at p s) (last - from + 1) from (last + 1) (omega arith) h)
  exec_is from last (Some c) w e h =
      sym (search_is from last w e
      ∙ found_first (successes_at p s) (c.start - from) (last - from + 1) from c.start (record { place = c.end; captures = c.groups.items })
      (omega (arith, h.from_start, h.within)) (omega (arith, h.from_start)) h.least h.best)
