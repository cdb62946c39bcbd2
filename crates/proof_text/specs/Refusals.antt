-- Which line of a file is the first that no text of a format has there.
use Rattle.std.specs.Prelude.{◌≡◌, ◌≢◌, ℕ, zero, suc, ◌==◌, List, [], ◌∷◌, ◌++◌, Option, Some, None, if◌then◌else◌}
use Rattle.std.specs.Option.{option_map}

-- the first lines, each with the LF that ends it; none where there are fewer
abbrev pub first_lines : ℕ → List ℕ → Option (List ℕ)
first_lines zero list = Some []
first_lines (suc n) [] = None
first_lines (suc n) (b ∷ bs) = option_map (λ line. b ∷ line) (first_lines (if b == 10 then n else suc n) bs)

-- the list has so many lines, and some text of the format begins with them
abbrev pub HasLines : {X : Type 0} → (X → List ℕ) → (X → Type 0) → ℕ → List ℕ → Type 0
HasLines {X} text is_spelt n list =
    (front : List ℕ) × (x : X) × (first_lines n list ≡ Some front) × is_spelt x × (first_lines n (text x) ≡ Some front)

-- no text stands at the front; some text begins with the lines before this one, counted from 1, and none with it too
pub record IsFirstWrong {X : Type 0} (text : X → List ℕ) (is_spelt : X → Type 0) (list : List ℕ) (line : ℕ) : Type 0 where
  pub none : (x : X) (rest : List ℕ) → is_spelt x → text x ++ rest ≢ list
  pub before : ℕ
  pub line_is : line ≡ suc before
  pub has : HasLines text is_spelt before list
  pub wrong : ¬ HasLines text is_spelt line list
