-- The order of strings as a test.
use Rattle.std.proofs.Common.{◌≡◌, ◌<◌, ℕ, List, [], ◌∷◌, Bool, true, false, sym, refl, arith, inl, inr}
use Rattle.std.specs.Prelude.{◌==◌, nat_lt, ◌||◌, ◌&&◌}
use Rattle.std.proofs.lemmas.Bool.Decides.{nat_tests}
use Rattle.js_units.specs.Order.{IsLess}
use Rattle.js_meaning.specs.Operators.{text_less}

more_step : (x y : ℕ) (b : Bool) → y ≡ x → b ≡ false → (nat_lt x y || ((x == y) && b)) ≡ false
more_step x y b e h = grind (arith, nat_tests)

above : (x y : ℕ) (b : Bool) → y < x → (nat_lt x y || ((x == y) && b)) ≡ false
above x y b h = grind (arith, nat_tests)

pub more_text : (s t : List ℕ) → IsLess t s → text_less s t ≡ false
more_text [] [] h = absurd h
more_text [] (y ∷ t) h = absurd h
more_text (x ∷ s) [] h = refl
more_text (x ∷ s) (y ∷ t) h =
    elim h [
      | inl k ↦ above x y (text_less s t) k
      | inr k ↦ more_step x y (text_less s t) k.0 (more_text s t k.1)
    ]

pub same_text : (s : List ℕ) → text_less s s ≡ false
same_text [] = refl
same_text (x ∷ s) = more_step x x (text_less s s) refl (same_text s)
