-- The least of some places.
use Rattle.std.proofs.Common.{◌≡◌, map, ℕ, ◌≤◌, ◌<◌, min, List, [], ◌∷◌, ◌++◌, All, Contains, length, get_or, drop, ◌+◌, Option, Some, None, refl, ap, sym, ◌∙◌, subst, ◌⊎◌, inl, inr, ⊎_elim, arith}
use Rattle.std.specs.List.{flat_map}
use Rattle.std.proofs.lemmas.List.{drop_more, drop_all}
use Rattle.std.proofs.lemmas.Bool.{cases_lt}
use Rattle.std.proofs.lemmas.List.Folds.{flat_map-map}
use Rattle.std.proofs.lemmas.List.Elements.{All-nil, All-cons, All-head, All-tail, Contains-append_left, Contains-append_right, Contains-append_cases, Contains-push, Contains-push_cases}
use denote.Ref.{Bor}
use Rattle.js_ast.specs.declared.parts.Identifier.{Identifier}
use Rattle.js_early.specs.Early.{Places, IsLeast, global_place}
use Rattle.js_early.specs.Parts.{lesser, least_with, globals_in}

-- one part behind another
pub least_both : (found : Option ℕ) (ps qs : Places) → least_with found (ps ++ qs) ≡ least_with (least_with found ps) qs
unfolding least_with
least_both found [] qs = refl
least_both found (p ∷ ps) qs = least_both (Some (lesser found p)) ps qs

-- the same, step by step
pub least_then : (found one two : Option ℕ) (ps qs : Places) → one ≡ least_with found ps → two ≡ least_with one qs → two ≡ least_with found (ps ++ qs)
least_then found one two ps qs e d = d ∙ ap (λ (o : Option ℕ). least_with o qs) e ∙ sym (least_both found ps qs)

pub least_none : (found : Option ℕ) → least_with found [] ≡ found
unfolding least_with
least_none found = refl

-- one turn of a loop over parts
pub least_more : {X : Type 0} (f : X → Places) (xs : List X) (i : ℕ) (d : X) (found found' : Option ℕ) → i < length xs → found' ≡ least_with found (f (get_or xs i d))
    → least_with found' (flat_map f (drop (i + 1) xs)) ≡ least_with found (flat_map f (drop i xs))
least_more {X} f xs i d found found' h e =
    ap (λ (a : Option ℕ). least_with a (flat_map f (drop (i + 1) xs))) e ∙ sym (least_both found (f (get_or xs i d)) (flat_map f (drop (i + 1) xs)))
    ∙ ap (λ (ys : List X). least_with found (flat_map f ys)) (sym (drop_more xs i d h))

-- the same, where the item is known by the element that it equals
pub least_step : {X : Type 0} (f : X → Places) (xs : List X) (i : ℕ) (item : X) (found found' : Option ℕ) → i < length xs → item ≡ get_or xs i item → found' ≡ least_with found (f item)
    → least_with found' (flat_map f (drop (i + 1) xs)) ≡ least_with found (flat_map f (drop i xs))
least_step {X} f xs i item found found' h is e = least_more f xs i item found found' h (e ∙ ap (λ (x : X). least_with found (f x)) is)

-- the end of one
pub least_all : {X : Type 0} (f : X → Places) (xs : List X) (i : ℕ) (found : Option ℕ) → length xs ≤ i → least_with found (flat_map f (drop i xs)) ≡ found
least_all {X} f xs i found h = ap (λ (ys : List X). least_with found (flat_map f ys)) (drop_all i xs h) ∙ least_none found

-- the same for names behind references
pub named_step : (xs : List (Bor Identifier)) (i : ℕ) (item : Bor Identifier) (found found' : Option ℕ) → i < length xs → item ≡ get_or xs i item → found' ≡ least_with found (global_place item.now)
    → least_with found' (globals_in (map (λ r. r.now) (drop (i + 1) xs))) ≡ least_with found (globals_in (map (λ r. r.now) (drop i xs)))
named_step xs i item found found' h is e =
    ap (least_with found') (flat_map-map global_place (λ (r : Bor Identifier). r.now) (drop (i + 1) xs)) ∙ least_step (λ (r : Bor Identifier). global_place r.now) xs i item found found' h is e
    ∙ ap (least_with found) (sym (flat_map-map global_place (λ (r : Bor Identifier). r.now) (drop i xs)))

pub named_all : (xs : List (Bor Identifier)) (i : ℕ) (found : Option ℕ) → length xs ≤ i → least_with found (globals_in (map (λ r. r.now) (drop i xs))) ≡ found
named_all xs i found h = ap (λ (ys : List (Bor Identifier)). least_with found (globals_in (map (λ r. r.now) ys))) (drop_all i xs h) ∙ least_none found

pub ruleset parts = (least_both, least_none, least_more, least_all)

-- ---- the least is the least

contains_first : (x : ℕ) (xs : List ℕ) → Contains (x ∷ xs) x
contains_first x xs = Contains-append_left (x ∷ []) xs x (Contains-push [] x)

contains_later : (x : ℕ) (xs : List ℕ) (y : ℕ) → Contains xs y → Contains (x ∷ xs) y
contains_later x xs y h = Contains-append_right (x ∷ []) xs y h

contains_none : (y : ℕ) → Contains [] y → ⊥
contains_none y h = let l = h.1 in omega arith

only_one : (x y : ℕ) → Contains (x ∷ []) y → x ≡ y
only_one x y h = ⊎_elim (λ (e : Contains [] y). absurd (contains_none y e)) (λ (e : x ≡ y). e) (Contains-push_cases [] x y h)

min_either : (a b : ℕ) → (min a b ≡ a) ⊎ (min a b ≡ b)
min_either a b = ⊎_elim (λ (h : a < b). inl (omega arith)) (λ (h : b ≤ a). inr (omega arith)) (cases_lt a b)

contains_wider : (q p : ℕ) (ps : List ℕ) (at : ℕ) → Contains (min q p ∷ ps) at → Contains (q ∷ p ∷ ps) at
contains_wider q p ps at h = ⊎_elim
    (λ (e : Contains (min q p ∷ []) at). ⊎_elim
    (λ (l : min q p ≡ q). subst (Contains (q ∷ p ∷ ps)) (sym l ∙ only_one (min q p) at e) (contains_first q (p ∷ ps)))
    (λ (r : min q p ≡ p). subst (Contains (q ∷ p ∷ ps)) (sym r ∙ only_one (min q p) at e) (contains_later q (p ∷ ps) p (contains_first p ps)))
    (min_either q p))
    (λ (e : Contains ps at). contains_later q (p ∷ ps) at (contains_later p ps at e))
    (Contains-append_cases (min q p ∷ []) ps at h)

least_wider : (q p : ℕ) (ps : List ℕ) (found : Option ℕ) → IsLeast (min q p ∷ ps) found → IsLeast (q ∷ p ∷ ps) found
least_wider q p ps None h = absurd (cc)
least_wider q p ps (Some at) h =
    let first : at ≤ min q p = All-head (λ (x : ℕ). at ≤ x) (min q p) ps h.1 in
    let others : All (λ (x : ℕ). at ≤ x) ps = All-tail (λ (x : ℕ). at ≤ x) (min q p) ps h.1 in
    (contains_wider q p ps at h.0, All-cons (λ (x : ℕ). at ≤ x) q (p ∷ ps) (omega arith) (All-cons (λ (x : ℕ). at ≤ x) p ps (omega arith) others))

least_some : (q : ℕ) (ps : List ℕ) → IsLeast (q ∷ ps) (least_with (Some q) ps)
unfolding least_with
least_some q [] = (contains_first q [], All-cons (λ (x : ℕ). q ≤ x) q [] (omega arith) (All-nil (λ (x : ℕ). q ≤ x)))
least_some q (p ∷ ps) = least_wider q p ps (least_with (Some (min q p)) ps) (least_some (min q p) ps)

pub is_least : (ps : List ℕ) → IsLeast ps (least_with None ps)
unfolding least_with
is_least [] = refl
is_least (p ∷ ps) = least_some p ps

pub found_least : (ps : List ℕ) (found : Option ℕ) → found ≡ least_with None ps → IsLeast ps found
found_least ps found e = subst (IsLeast ps) (sym e) (is_least ps)
