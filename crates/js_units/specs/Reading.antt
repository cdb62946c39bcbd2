-- Reading a list from its front: what stands there, and what is behind it. This project's own.
use Rattle.std.specs.Prelude.{ℕ, zero, suc, List, [], ◌∷◌, length, Option, Some, None}

-- what was read, and what is behind it
abbrev pub Read : Type 0 → Type 0
Read X = Option (X × List ℕ)

abbrev pub one_more : {X : Type 0} → (List ℕ → List X × List ℕ) → Option (X × List ℕ) → List ℕ → List X × List ℕ
one_more go None list = ([], list)
one_more go (Some r) list = (r.0 ∷ (go r.1).0, (go r.1).1)

-- one behind another, at most so many
abbrev pub many_of : {X : Type 0} → (List ℕ → Option (X × List ℕ)) → ℕ → List ℕ → List X × List ℕ
many_of take zero list = ([], list)
many_of take (suc n) list = one_more (many_of take n) (take list) list

-- one behind another, as long as one stands in front
unfoldable pub many : {X : Type 0} → (List ℕ → Option (X × List ℕ)) → List ℕ → List X × List ℕ
many take list = many_of take (length list) list
