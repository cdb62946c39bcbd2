-- Each input within accepted bounds has values of the language.
use Rattle.std.proofs.Common.{◌≡◌, ◌≤◌, ◌<◌, ◌+◌, ◌-◌, ℕ, zero, suc, ℤ, pos, negsuc, neg_ℤ, ◌+ℤ◌, ◌-ℤ◌, ◌≤ℤ◌, Bool, true, false, ◌&&◌, int_le, List, [], ◌∷◌, ◌++◌, length, map, T, refl, ap, subst, arith}
use Rattle.std.specs.List.{All, AllByRecursion, flat_map}
use Rattle.std.proofs.lemmas.Int.{ints as int_facts}
use Rattle.std.proofs.lemmas.List.Elements.{All-head, All-tail}
use Rattle.js_values.specs.Numbers.{is_safe, most_safe}
use Rattle.path_core.specs.declared.bounds.Kind.{Kind}
use Rattle.path_core.specs.declared.bounds.Kind.TheVariants as kinds
use Rattle.path_core.specs.declared.bounds.Declared.{Declared}
use Rattle.path_core.specs.declared.path.InputValue.{InputValue}
use Rattle.path_core.specs.declared.path.InputValue.TheVariants as values
use Rattle.path_core.specs.Accepted.{IsSafe, AreSafe, IsAccepted}
use Rattle.path_core.specs.Inputs.{Values, ints, ints_from, to_count, texts_of, lengths_from, values_of, within, IsRange, IsWithin}
use Rattle.js_state.specs.Fitting.{IsInputValue, AreSupplied}

module _ {X : Type 0} (P : X → Type 0) where
  each_weaker : (Q : X → Type 0) → ((x : X) → Q x → P x) → (xs : List X) → AllByRecursion Q xs → AllByRecursion P xs
  each_weaker Q step [] h = tt
  each_weaker Q step (x ∷ xs) h = (step x h.0, each_weaker Q step xs h.1)

  each_append : (xs ys : List X) → AllByRecursion P xs → AllByRecursion P ys → AllByRecursion P (xs ++ ys)
  each_append [] ys h g = g
  each_append (x ∷ xs) ys h g = (h.0, each_append xs ys h.1 g)

  each_at : (before after : List X) (x : X) → AllByRecursion P (before ++ x ∷ after) → P x
  each_at [] after x h = h.0
  each_at (y ∷ before) after x h = each_at before after x h.1

  each_map : {A : Type 0} (f : A → X) (Q : A → Type 0) → ((a : A) → Q a → P (f a)) → (xs : List A) → AllByRecursion Q xs → AllByRecursion P (map f xs)
  each_map f Q step [] h = tt
  each_map f Q step (a ∷ xs) h = (step a h.0, each_map f Q step xs h.1)

  each_flat : {A : Type 0} (f : A → List X) (Q : A → Type 0) → ((a : A) → Q a → AllByRecursion P (f a)) → (xs : List A) → AllByRecursion Q xs → AllByRecursion P (flat_map f xs)
  each_flat f Q step [] h = tt
  each_flat f Q step (a ∷ xs) h = each_append (f a) (flat_map f xs) (step a h.0) (each_flat f Q step xs h.1)

-- ---- numbers

abbrev Between : ℤ → ℤ → ℤ → Type 0
Between low high n = (low ≤ℤ n) × (n ≤ℤ high)

between : (low high from : ℤ) (n : ℕ) → low ≤ℤ from → (from +ℤ pos n) ≤ℤ (high +ℤ pos 1) → AllByRecursion (Between low high) (ints_from from n)
between low high from zero a b = tt
between low high from (suc n) a b = ((a, omega (arith, int_facts)), between low high (from +ℤ pos 1) n (omega (arith, int_facts)) (omega (arith, int_facts)))

counted : (low high z : ℤ) → z ≡ high -ℤ low → low ≤ℤ high → (low +ℤ pos (to_count z)) ≤ℤ (high +ℤ pos 1)
counted low high (pos n) e h = omega (arith, int_facts)
counted low high (negsuc n) e h = absurd (omega (arith, int_facts))

of_T : (b : Bool) → T b → b ≡ true
of_T true h = refl
of_T false h = absurd h

at_most : (p q : ℤ) → p ≤ℤ q → int_le p q ≡ true
at_most p q l = of_T (int_le p q) l.le

safe_between : (low high n : ℤ) → IsSafe low → IsSafe high → Between low high n → is_safe n ≡ true
safe_between low high n l h b =
    let above : neg_ℤ (pos most_safe) ≤ℤ n = omega (arith, int_facts, l.from, b) in
    let below : n ≤ℤ pos most_safe = omega (arith, int_facts, h.to, b) in
    rw (at_most (neg_ℤ (pos most_safe)) n above, at_most n (pos most_safe) below) refl

ranged : (low high : ℤ) → low ≤ℤ high → AllByRecursion (Between low high) (ints low high)
ranged low high h = between low high low (to_count (high -ℤ low)) (omega (arith, int_facts)) (counted low high (high -ℤ low) refl h)

-- ---- texts

sized : (alphabet : List ℕ) (n : ℕ) → AllByRecursion (λ t. length t ≡ n) (texts_of alphabet n)
sized alphabet zero = (refl, tt)
sized alphabet (suc n) =
    each_flat (λ t. length t ≡ suc n) (λ u. map (λ rest. u ∷ rest) (texts_of alphabet n)) (λ u. Unit {0})
    (λ u h. each_map (λ t. length t ≡ suc n) (λ rest. u ∷ rest) (λ t. length t ≡ n) (λ t e. ap (λ (m : ℕ). suc m) e) (texts_of alphabet n) (sized alphabet n))
    alphabet (any alphabet)
  where
    any : (us : List ℕ) → AllByRecursion (λ u. Unit {0}) us
    any [] = tt
    any (u ∷ us) = (tt, any us)

up_to : (most least n : ℕ) → least + n ≤ suc most → AllByRecursion (λ k. k ≤ most) (lengths_from least n)
up_to most least zero h = tt
up_to most least (suc n) h = (omega (arith, h), up_to most (suc least) n (omega (arith, h)))

lengths : (least most n : ℕ) → n ≡ suc most - least → AllByRecursion (λ k. k ≤ most) (lengths_from least n)
lengths least most zero e = tt
lengths least most (suc n) e = up_to most least (suc n) (omega (arith, e))

-- ---- inputs

value : (k : Kind) → IsRange k → AreSafe k → AllByRecursion IsInputValue (values_of k)
value (kinds.Int low high) r h = each_map IsInputValue values.Int (Between low high) (λ n b. safe_between low high n h.low_safe h.high_safe b) (ints low high) (ranged low high r)
value (kinds.Text least most alphabet) r h =
    each_map IsInputValue values.Text (λ t. length t ≤ most) (λ t fits. omega (arith, fits, h)) _
    (each_flat (λ t. length t ≤ most) (texts_of alphabet) (λ n. n ≤ most)
    (λ n le. each_weaker (λ t. length t ≤ most) (λ t. length t ≡ n) (λ t e. omega (arith, e, le)) (texts_of alphabet n) (sized alphabet n))
    (lengths_from least (suc most - least)) (lengths least most (suc most - least) refl))

each_supplied : (ds : List Declared) → All IsAccepted ds → AllByRecursion (AreSupplied ds) (within ds)
each_supplied [] h = (tt, tt)
each_supplied (d ∷ ds) h =
    each_flat (AreSupplied (d ∷ ds)) (λ v. map (λ rest. v ∷ rest) (within ds)) IsInputValue
    (λ v fits. each_map (AreSupplied (d ∷ ds)) (λ rest. v ∷ rest) (AreSupplied ds) (λ rest others. (fits, others)) (within ds) (each_supplied ds (All-tail IsAccepted d ds h)))
    (values_of d.kind) (value d.kind (All-head IsAccepted d ds h).range (All-head IsAccepted d ds h).safe)

pub supplied : (ds : List Declared) (x : Values) → All IsAccepted ds → IsWithin ds x → AreSupplied ds x
supplied ds x h w = each_at (AreSupplied ds) w.0 w.1 x (subst (λ (xs : List Values). AllByRecursion (AreSupplied ds) xs) w.2 (each_supplied ds h))
