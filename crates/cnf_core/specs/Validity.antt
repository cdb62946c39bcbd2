-- When a step of a derivation is valid (this project's own). A clause is the set of its literals: a repeated literal counts once.
use Rattle.std.specs.Prelude.{ℕ, zero, suc, ℤ, neg_ℤ, Bool, false, not, ◌&&◌, ◌||◌, if◌then◌else◌, List, [], ◌∷◌, Option, Some, None, slice_get, find, option_and_then}
use Rattle.std.specs.List.{list_any, list_all}
use Rattle.std.specs.Ordering.{int_eq}

-- the literal is one of these
abbrev pub among : List ℤ → ℤ → Bool
among ls l = list_any (λ k. int_eq k l) ls

-- every literal of the second clause is one of the first
abbrev pub contains : List ℤ → List ℤ → Bool
contains c d = list_all (among c) d

-- no literal stands beside its opposite
abbrev pub is_plain : List ℤ → Bool
is_plain clause = list_all (λ l. not (among clause (neg_ℤ l))) clause

-- Below, `is_false` tells which literals are false. This one more is:
abbrev pub also : (ℤ → Bool) → ℤ → ℤ → Bool
also is_false l k = int_eq l k || is_false k

-- every literal of the clause is false
abbrev pub is_falsified : (ℤ → Bool) → List ℤ → Bool
is_falsified is_false clause = list_all is_false clause

-- this literal isn't true, and every other literal of the clause is false
abbrev pub is_unit : (ℤ → Bool) → List ℤ → ℤ → Bool
is_unit is_false clause l = not (is_false (neg_ℤ l)) && is_falsified (also is_false l) clause

-- the one literal of the clause that isn't false, where there is exactly one and it isn't yet true
abbrev pub unit_in : (ℤ → Bool) → List ℤ → ℤ → Option ℤ
unit_in is_false clause l = if is_unit is_false clause l then Some l else None

abbrev pub unit_of : (ℤ → Bool) → List ℤ → Option ℤ
unit_of is_false clause = option_and_then (unit_in is_false clause) (find (λ l. not (is_false l)) clause)

-- the clause of this number, from 1 on
abbrev pub numbered : List (List ℤ) → ℕ → Option (List ℤ)
numbered known zero = None
numbered known (suc n) = slice_get known n

abbrev pub if_some : {A : Type 0} → Option A → (A → Bool) → Bool
if_some None test = false
if_some (Some a) test = test a

-- There is a hint; every hinted clause but the last, in order, has exactly one literal that isn't false, and that one isn't
-- yet true (it is then made true); and every literal of the last one is false.
abbrev pub leads : List (List ℤ) → (ℤ → Bool) → List ℕ → Bool
leads known is_false [] = false
leads known is_false (h ∷ []) = if_some (numbered known h) (is_falsified is_false)
leads known is_false (h ∷ g ∷ hs) = if_some (option_and_then (unit_of is_false) (numbered known h)) (λ l. leads known (also is_false (neg_ℤ l)) (g ∷ hs))

-- a step with this clause and these hints, where these clauses stand before it
abbrev pub is_valid : List (List ℤ) → List ℤ → List ℕ → Bool
is_valid known clause hints = is_plain clause && leads known (among clause) hints
