-- Lists of places, each with its own values: each list with the next one behind it.
use Rattle.std.proofs.Common.{◌≡◌, ℕ, suc, List, [], ◌∷◌, ◌++◌, length, map, Option, refl, ap, ◌∙◌}
use Rattle.std.specs.Prelude.{⊤}
use Rattle.std.specs.List.{flat_map}
use Rattle.path_core.specs.Order.{head_of, carried, next_with}

-- behind each element stands what f gives for it
abbrev pub Chained : {A : Type 0} → (A → Option A) → List A → Type 0
Chained f [] = ⊤
Chained f (x ∷ xs) = (f x ≡ head_of xs) × Chained f xs

-- the lists that begin with one of these values
abbrev pub spread : {A : Type 0} → List A → List (List A) → List (List A)
spread vs xs = flat_map (λ v. map (λ rest. v ∷ rest) xs) vs

pub behind : {A : Type 0} (f : A → Option A) (before : List A) (x : A) (after : List A) → Chained f (before ++ x ∷ after) → f x ≡ head_of after
behind f [] x after h = h.0
behind f (b ∷ before) x after h = behind f before x after h.1

pub inner : {A : Type 0} (next : A → Option A) (firsts : List A) (rests whole : List A → Option (List A)) → ((v : A) (rest : List A) → whole (v ∷ rest) ≡ next_with next firsts v (rests rest)) → (v : A) (xs ys : List (List A)) → Chained rests xs → carried firsts (next v) ≡ head_of ys → Chained whole ys → Chained whole (map (λ rest. v ∷ rest) xs ++ ys)
inner next firsts rests whole same v [] ys h e k = k
inner next firsts rests whole same v (x ∷ []) ys h e k = (rw (same v x, h.0) e, k)
inner next firsts rests whole same v (x ∷ x' ∷ xs) ys h e k = (rw (same v x, h.0) refl, inner next firsts rests whole same v (x' ∷ xs) ys h.1 e k)

carried_head : {A : Type 0} (firsts : List A) (vs : List A) (rest : List (List A)) → carried firsts (head_of vs) ≡ head_of (spread vs (firsts ∷ rest))
carried_head firsts [] rest = refl
carried_head firsts (v ∷ vs) rest = refl

pub outer : {A : Type 0} (next : A → Option A) (firsts : List A) (rests whole : List A → Option (List A)) → ((v : A) (rest : List A) → whole (v ∷ rest) ≡ next_with next firsts v (rests rest)) → (vs : List A) (rest : List (List A)) → Chained next vs → Chained rests (firsts ∷ rest) → Chained whole (spread vs (firsts ∷ rest))
outer next firsts rests whole same [] rest h k = tt
outer next firsts rests whole same (v ∷ vs) rest h k = inner next firsts rests whole same v (firsts ∷ rest) (spread vs (firsts ∷ rest)) k (rw h.0 (carried_head firsts vs rest)) (outer next firsts rests whole same vs rest h.1 k)

pub begin_both : {A : Type 0} (first : A) (firsts : List A) (vs : List A) (xs : List (List A)) (v : List A) (rest : List (List A)) → vs ≡ first ∷ v → xs ≡ firsts ∷ rest → (more : List (List A)) × (spread vs xs ≡ (first ∷ firsts) ∷ more)
begin_both first firsts vs xs v rest e k = (map (λ r. first ∷ r) rest ++ spread v (firsts ∷ rest), ap (λ ws. spread ws xs) e ∙ ap (λ ys. spread (first ∷ v) ys) k)

-- each of the lists has so many elements
abbrev pub Long : {A : Type 0} → ℕ → List (List A) → Type 0
Long n [] = ⊤
Long n (x ∷ xs) = (length x ≡ n) × Long n xs

long-append : {A : Type 0} (n : ℕ) (xs ys : List (List A)) → Long n xs → Long n ys → Long n (xs ++ ys)
long-append n [] ys h k = k
long-append n (x ∷ xs) ys h k = (h.0, long-append n xs ys h.1 k)

long-map : {A : Type 0} (n : ℕ) (v : A) (xs : List (List A)) → Long n xs → Long (suc n) (map (λ rest. v ∷ rest) xs)
long-map n v [] h = tt
long-map n v (x ∷ xs) h = (ap (λ (k : ℕ). suc k) h.0, long-map n v xs h.1)

pub long-spread : {A : Type 0} (n : ℕ) (vs : List A) (xs : List (List A)) → Long n xs → Long (suc n) (spread vs xs)
long-spread n [] xs h = tt
long-spread n (v ∷ vs) xs h = long-append (suc n) (map (λ rest. v ∷ rest) xs) (spread vs xs) (long-map n v xs h) (long-spread n vs xs h)

pub long-at : {A : Type 0} (n : ℕ) (before : List (List A)) (x : List A) (after : List (List A)) → Long n (before ++ x ∷ after) → length x ≡ n
long-at n [] x after h = h.0
long-at n (b ∷ before) x after h = long-at n before x after h.1
