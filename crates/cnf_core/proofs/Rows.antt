-- Worked examples, which the checker computes. negsuc 0 is -1, and negsuc 1 is -2.
use Rattle.std.proofs.Common.{ℤ, pos, negsuc, true, false, List, [], ◌∷◌, ◌≡◌, refl, Some, None}
use Rattle.cnf_core.specs.Validity.{among, contains, is_plain, unit_of, is_valid}

-- 1 or 2; 1 or not 2; not 1 or 2; not 1 or not 2
abbrev square : List (List ℤ)
square = (pos 1 ∷ pos 2 ∷ []) ∷ (pos 1 ∷ negsuc 1 ∷ []) ∷ (negsuc 0 ∷ pos 2 ∷ []) ∷ (negsuc 0 ∷ negsuc 1 ∷ []) ∷ []

-- with the clause 1 behind them
abbrev square_and_one : List (List ℤ)
square_and_one = (pos 1 ∷ pos 2 ∷ []) ∷ (pos 1 ∷ negsuc 1 ∷ []) ∷ (negsuc 0 ∷ pos 2 ∷ []) ∷ (negsuc 0 ∷ negsuc 1 ∷ []) ∷ (pos 1 ∷ []) ∷ []

-- a clause contains another as a set of literals
contains_as_set : contains (pos 1 ∷ negsuc 1 ∷ []) (negsuc 1 ∷ negsuc 1 ∷ []) ≡ true
contains_as_set = refl

contains_no_opposite : contains (pos 1 ∷ negsuc 1 ∷ []) (pos 2 ∷ []) ≡ false
contains_no_opposite = refl

-- a literal beside its opposite
opposites : is_plain (pos 1 ∷ pos 2 ∷ negsuc 0 ∷ []) ≡ false
opposites = refl

-- with 1 false, 2 is the one literal left of "1 or 2 or 2"
one_left : unit_of (among (pos 1 ∷ [])) (pos 1 ∷ pos 2 ∷ pos 2 ∷ []) ≡ Some (pos 2)
one_left = refl

two_left : unit_of (among []) (pos 1 ∷ pos 2 ∷ []) ≡ None
two_left = refl

none_left : unit_of (among (pos 1 ∷ [])) (pos 1 ∷ []) ≡ None
none_left = refl

-- the one literal left is true already, its opposite being false
true_already : unit_of (among (negsuc 0 ∷ [])) (pos 1 ∷ []) ≡ None
true_already = refl

-- the clause 1 follows from clauses 1 and 2
first_step : is_valid square (pos 1 ∷ []) (1 ∷ 2 ∷ []) ≡ true
first_step = refl

-- and then the empty clause from 5, 3 and 4
second_step : is_valid square_and_one [] (5 ∷ 3 ∷ 4 ∷ []) ≡ true
second_step = refl

-- not where clause 3 comes first, which has two literals that aren't false
too_early : is_valid square_and_one [] (3 ∷ 5 ∷ 3 ∷ 4 ∷ []) ≡ false
too_early = refl

no_hint : is_valid square (pos 1 ∷ []) [] ≡ false
no_hint = refl

hint_of_itself : is_valid square (pos 1 ∷ []) (1 ∷ 5 ∷ []) ≡ false
hint_of_itself = refl

hint_zero : is_valid square (pos 1 ∷ []) (1 ∷ 0 ∷ []) ≡ false
hint_zero = refl
