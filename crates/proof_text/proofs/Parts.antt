-- Words, and steps one after another.
use Rattle.std.proofs.Common.{◌≡◌, ℕ, Bool, true, false, cond, List, [], ◌∷◌, ◌++◌, Option, Some, None, refl, sym, ap}
use Rattle.std.specs.Prelude.{◌==◌}
use Rattle.std.proofs.lemmas.Bool.{eqb-true, eq-eqb}
use Rattle.proof_text.specs.Lines.{after, ◌>>=◌}

some_same : {A : Type 0} (a b : A) → Some a ≡ Some b → a ≡ b
some_same a b e = cc

after_by : (w b : ℕ) (ws bs rest : List ℕ) (x : Bool) → (w == b) ≡ x → cond x (after ws bs) None ≡ Some rest → (after ws bs ≡ Some rest → ws ++ rest ≡ bs) → w ∷ ws ++ rest ≡ b ∷ bs
after_by w b ws bs rest true h k more = rw (eqb-true w b h) (ap (λ (q : List ℕ). b ∷ q) (more k))
after_by w b ws bs rest false h k more = absurd cc

pub after_sound : (w list rest : List ℕ) → after w list ≡ Some rest → w ++ rest ≡ list
after_sound [] list rest e = sym (some_same list rest e)
after_sound (w ∷ ws) [] rest e = absurd cc
after_sound (w ∷ ws) (b ∷ bs) rest e = after_by w b ws bs rest (w == b) refl e (after_sound ws bs rest)

pub after_complete : (w rest : List ℕ) → after w (w ++ rest) ≡ Some rest
after_complete [] rest = refl
after_complete (w ∷ ws) rest = rw (eq-eqb w w refl) (after_complete ws rest)

-- what a chain of steps found, its first step found
pub record Found {A B : Type 0} (o : Option A) (f : A → Option B) (y : B) : Type 0 where
  pub first : A
  pub first_is : o ≡ Some first
  pub then_is : f first ≡ Some y

pub found : {A B : Type 0} (o : Option A) (f : A → Option B) (y : B) → o >>= f ≡ Some y → Found o f y
found None f y e = absurd cc
found (Some x) f y e = record { first = x; first_is = refl; then_is = e }
