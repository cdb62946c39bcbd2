-- Parts of lines: words, and what stands behind them.
use Rattle.std.specs.Prelude.{ℕ, ◌==◌, List, [], ◌∷◌, Option, Some, None, if◌then◌else◌}

-- what is behind a word at the front
abbrev pub after : List ℕ → List ℕ → Option (List ℕ)
after [] list = Some list
after (w ∷ ws) [] = None
after (w ∷ ws) (b ∷ bs) = if w == b then after ws bs else None

-- one step after another, as long as each finds what it looks for
infixl 10 ◌>>=◌
abbrev pub ◌>>=◌ : {A B : Type 0} → Option A → (A → Option B) → Option B
None >>= f = None
(Some x) >>= f = f x
