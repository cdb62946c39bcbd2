-- The order of strings is the standard's.
use Rattle.std.proofs.Common.{◌≡◌, ◌⊎◌, ℕ, nat_lt, ◌==◌, Bool, true, false, ◌&&◌, ◌||◌, List, [], ◌∷◌, refl, subst, cond}
use Rattle.std.proofs.Common.{inl, inr}
use Rattle.std.proofs.lemmas.Bool.{ltb-true, lt-ltb, eqb-true, eq-eqb}
use Rattle.js_units.specs.Order.{IsLess}
use Rattle.js_meaning.specs.Operators.{text_less}

no_truth : {A : Type 0} → false ≡ true → A
no_truth e = absurd (subst (λ b. cond b ⊥ (Unit {0})) e tt)

parts : (a b c : Bool) → (a || (b && c)) ≡ true → (a ≡ true) ⊎ ((b ≡ true) × (c ≡ true))
parts true b c e = inl refl
parts false true c e = inr (refl, e)
parts false false c e = no_truth e

first_less : (a b c : Bool) → a ≡ true → (a || (b && c)) ≡ true
first_less a b c e = rw e refl

rest_less : (a b c : Bool) → b ≡ true → c ≡ true → (a || (b && c)) ≡ true
rest_less true b c e f = refl
rest_less false b c e f = rw (e, f) refl

found : (x y : ℕ) (xs ys : List ℕ) → (text_less xs ys ≡ true → IsLess xs ys) →
    (nat_lt x y ≡ true) ⊎ (((x == y) ≡ true) × (text_less xs ys ≡ true)) → IsLess (x ∷ xs) (y ∷ ys)
found x y xs ys k (inl l) = inl (ltb-true x y l)
found x y xs ys k (inr p) = inr (eqb-true x y p.0, k p.1)

pub is_less : (a b : List ℕ) → text_less a b ≡ true → IsLess a b
is_less [] [] e = no_truth e
is_less [] (y ∷ ys) e = tt
is_less (x ∷ xs) [] e = no_truth e
is_less (x ∷ xs) (y ∷ ys) e = found x y xs ys (is_less xs ys) (parts (nat_lt x y) (x == y) (text_less xs ys) e)

pub less_is : (a b : List ℕ) → IsLess a b → text_less a b ≡ true
less_is [] [] h = absurd h
less_is [] (y ∷ ys) h = refl
less_is (x ∷ xs) [] h = absurd h
less_is (x ∷ xs) (y ∷ ys) (inl l) = first_less (nat_lt x y) (x == y) (text_less xs ys) (lt-ltb x y l)
less_is (x ∷ xs) (y ∷ ys) (inr p) =
    rest_less (nat_lt x y) (x == y) (text_less xs ys) (eq-eqb x y p.0) (less_is xs ys p.1)
