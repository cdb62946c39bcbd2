-- Lines one behind another: what they say, or the list from the first wrong line on.
use Rattle.std.specs.Prelude.{ℕ, zero, suc, List, [], ◌∷◌, Option, Some, None, Result, Ok, Err}
use Rattle.std.specs.Borrow.{Bor}

abbrev pub in_front : {X : Type 0} → X → Result (List X × List ℕ) (List ℕ) → Result (List X × List ℕ) (List ℕ)
in_front x (Ok r) = Ok (x ∷ r.0, r.1)
in_front x (Err at) = Err at

abbrev pub one_then : {X : Type 0} → Option (X × List ℕ) → List ℕ → (List ℕ → Result (List X × List ℕ) (List ℕ)) → Result (List X × List ℕ) (List ℕ)
one_then None list go = Err list
one_then (Some r) list go = in_front r.0 (go r.1)

-- exactly so many
abbrev pub times : {X : Type 0} → (List ℕ → Option (X × List ℕ)) → ℕ → List ℕ → Result (List X × List ℕ) (List ℕ)
times take zero list = Ok ([], list)
times take (suc n) list = one_then (take list) list (times take n)

-- one line
abbrev pub line_at : {X : Type 0} → Option (X × List ℕ) → List ℕ → Result (X × List ℕ) (List ℕ)
line_at None list = Err list
line_at (Some r) list = Ok r

infixl 10 ◌>>=◌
abbrev pub ◌>>=◌ : {A B : Type 0} → Result A (List ℕ) → (A → Result B (List ℕ)) → Result B (List ℕ)
(Ok x) >>= f = f x
(Err at) >>= f = Err at

-- a reading, with slices seen as the lists that they are
abbrev pub seen : {X : Type 0} → Result (X × Bor (List ℕ)) (Bor (List ℕ)) → Result (X × List ℕ) (List ℕ)
seen (Ok r) = Ok (r.0, r.1.now)
seen (Err at) = Err at.now
