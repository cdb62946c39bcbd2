-- Reading one behind another.
use Rattle.std.proofs.Common.{◌≡◌, ℕ, zero, suc, ◌<◌, ◌≤◌, List, [], ◌∷◌, ◌++◌, length, Option, Some, None, refl, sym, ap, ◌∙◌, arith, append_assoc, append-nil, length-append}
use Rattle.std.specs.List.{flat_map}
use Rattle.js_units.specs.Reading.{one_more, many_of, many}

-- what is left is shorter
abbrev pub Shortens : {X : Type 0} → (List ℕ → Option (X × List ℕ)) → Type 0
Shortens {X} take = (list : List ℕ) (x : X) (rest : List ℕ) → take list ≡ Some (x, rest) → length rest < length list

-- what was read is one, and so is what is behind it
pub same_read : {X : Type 0} (x y : X) (a b : List ℕ) → ◌≡◌ {A = Option (X × List ℕ)} (Some (x, a)) (Some (y, b)) → (x ≡ y) × (a ≡ b)
same_read {X} x y a b e =
    let one : X × List ℕ = (x, a) in
    let other : X × List ℕ = (y, b) in
    let same : one ≡ other = inside one other e in
    (ap (λ (q : X × List ℕ). q.0) same, ap (λ (q : X × List ℕ). q.1) same)
  where
    inside : (p q : X × List ℕ) → Some p ≡ Some q → p ≡ q
    inside p q e = cc

by_rest : {X : Type 0} (f g : List ℕ → List X × List ℕ) (list : List ℕ) (r : Option (X × List ℕ)) → ((x : X) (rest : List ℕ) → r ≡ Some (x, rest) → f rest ≡ g rest) → one_more f r list ≡ one_more g r list
by_rest f g list None h = refl
by_rest f g list (Some r) h = ap (λ q. (r.0 ∷ q.0, q.1)) (h r.0 r.1 refl)

none_left : {X : Type 0} (take : List ℕ → Option (X × List ℕ)) → Shortens take → (go : List ℕ → List X × List ℕ) (r : Option (X × List ℕ)) → take [] ≡ r → one_more go r [] ≡ ([], [])
none_left take h go None e = refl
none_left take h go (Some r) e = absurd (let k = h [] r.0 r.1 e in omega (arith, k))

-- it makes no difference how many are allowed, where they are enough
pub enough : {X : Type 0} (take : List ℕ → Option (X × List ℕ)) → Shortens take → (n m : ℕ) (list : List ℕ) → length list ≤ n → length list ≤ m → many_of take n list ≡ many_of take m list
enough take h zero zero list a b = refl
enough take h zero (suc m) [] a b = sym (none_left take h (many_of take m) (take []) refl)
enough take h zero (suc m) (x ∷ xs) a b = absurd (omega arith)
enough take h (suc n) zero [] a b = none_left take h (many_of take n) (take []) refl
enough take h (suc n) zero (x ∷ xs) a b = absurd (omega arith)
enough take h (suc n) (suc m) list a b =
    by_rest (many_of take n) (many_of take m) list (take list) (λ x rest e. let k = h list x rest e in enough take h n m rest (omega (arith, k)) (omega (arith, k)))

one_then : {X : Type 0} (take : List ℕ → Option (X × List ℕ)) (n : ℕ) (list : List ℕ) (r : Option (X × List ℕ)) → take list ≡ r → many_of take (suc n) list ≡ one_more (many_of take n) r list
one_then take n list r e = ap (λ q. one_more (many_of take n) q list) e

-- one stands in front
pub many_more : {X : Type 0} (take : List ℕ → Option (X × List ℕ)) → Shortens take → (list : List ℕ) (x : X) (rest : List ℕ) → take list ≡ Some (x, rest) → many take list ≡ (x ∷ (many take rest).0, (many take rest).1)
unfolding many
many_more take h list x rest e =
    let k = h list x rest e in
    enough take h (length list) (suc (length list)) list (omega arith) (omega arith)
    ∙ one_then take (length list) list (Some (x, rest)) e
    ∙ ap (λ q. (x ∷ q.0, q.1)) (enough take h (length list) (length rest) rest (omega (arith, k)) (omega arith))

end_of : {X : Type 0} (take : List ℕ → Option (X × List ℕ)) (n : ℕ) (list : List ℕ) → take list ≡ None → many_of take n list ≡ ([], list)
end_of take zero list e = refl
end_of take (suc n) list e = one_then take n list None e

-- none does
pub many_end : {X : Type 0} (take : List ℕ → Option (X × List ℕ)) (list : List ℕ) → take list ≡ None → many take list ≡ ([], list)
unfolding many
many_end take list e = end_of take (length list) list e

-- ---- what was read is what was written

-- what is taken was written in front, and is one of those that may be
abbrev pub Sound : {X : Type 0} → (List ℕ → Option (X × List ℕ)) → (X → List ℕ) → (X → Type 0) → Type 0
Sound {X} take text is_spelt = (list : List ℕ) (x : X) (rest : List ℕ) → take list ≡ Some (x, rest) → is_spelt x × (text x ++ rest ≡ list)

abbrev pub Spelt : {X : Type 0} → (X → Type 0) → List X → Type 0
Spelt is_spelt [] = Unit {0}
Spelt is_spelt (x ∷ xs) = is_spelt x × Spelt is_spelt xs

many_by : {X : Type 0} (take : List ℕ → Option (X × List ℕ)) (text : X → List ℕ) (is_spelt : X → Type 0) (list : List ℕ) (go : List ℕ → List X × List ℕ) (r : Option (X × List ℕ)) → ((x : X) (rest : List ℕ) → r ≡ Some (x, rest) → is_spelt x × (text x ++ rest ≡ list)) → ((rest : List ℕ) → Spelt is_spelt (go rest).0 × (flat_map text (go rest).0 ++ (go rest).1 ≡ rest)) → Spelt is_spelt (one_more go r list).0 × (flat_map text (one_more go r list).0 ++ (one_more go r list).1 ≡ list)
many_by take text is_spelt list go None h k = (tt, refl)
many_by take text is_spelt list go (Some r) h k =
    let one = h r.0 r.1 refl in
    let more = k r.1 in
    ((one.0, more.0), append_assoc (text r.0) (flat_map text (go r.1).0) (go r.1).1 ∙ ap (λ (q : List ℕ). text r.0 ++ q) more.1 ∙ one.1)

many_in : {X : Type 0} (take : List ℕ → Option (X × List ℕ)) (text : X → List ℕ) (is_spelt : X → Type 0) → Sound take text is_spelt → (n : ℕ) (list : List ℕ) → Spelt is_spelt (many_of take n list).0 × (flat_map text (many_of take n list).0 ++ (many_of take n list).1 ≡ list)
many_in take text is_spelt h zero list = (tt, refl)
many_in take text is_spelt h (suc n) list = many_by take text is_spelt list (many_of take n) (take list) (λ x rest e. h list x rest e) (λ rest. many_in take text is_spelt h n rest)

pub many_sound : {X : Type 0} (take : List ℕ → Option (X × List ℕ)) (text : X → List ℕ) (is_spelt : X → Type 0) → Sound take text is_spelt → (list : List ℕ) → Spelt is_spelt (many take list).0 × (flat_map text (many take list).0 ++ (many take list).1 ≡ list)
unfolding many
many_sound take text is_spelt h list = many_in take text is_spelt h (length list) list

-- ---- what was written is read

-- what is written in front is taken, where what is behind it may follow
abbrev pub Complete : {X : Type 0} → (List ℕ → Option (X × List ℕ)) → (X → List ℕ) → (X → Type 0) → (List ℕ → Type 0) → Type 0
Complete {X} take text is_spelt follows = (x : X) (rest : List ℕ) → is_spelt x → follows rest → take (text x ++ rest) ≡ Some (x, rest)

-- each may follow whatever stands before it
abbrev pub Begins : {X : Type 0} → (X → List ℕ) → (X → Type 0) → (List ℕ → Type 0) → Type 0
Begins {X} text is_spelt follows = (x : X) (rest : List ℕ) → is_spelt x → follows (text x ++ rest)

follows_all : {X : Type 0} (text : X → List ℕ) (is_spelt : X → Type 0) (follows : List ℕ → Type 0) → Begins text is_spelt follows → (xs : List X) (last : List ℕ) → Spelt is_spelt xs → follows last → follows (flat_map text xs ++ last)
follows_all text is_spelt follows h [] last s f = f
follows_all text is_spelt follows h (x ∷ xs) last s f = rw (append_assoc (text x) (flat_map text xs) last) (h x (flat_map text xs ++ last) s.0)

pub many_complete : {X : Type 0} (take : List ℕ → Option (X × List ℕ)) (text : X → List ℕ) (is_spelt : X → Type 0) (follows : List ℕ → Type 0) → Shortens take → Complete take text is_spelt follows → Begins text is_spelt follows → (xs : List X) (last : List ℕ) → Spelt is_spelt xs → follows last → take last ≡ None → many take (flat_map text xs ++ last) ≡ (xs, last)
many_complete take text is_spelt follows short h b [] last s f e = many_end take last e
many_complete take text is_spelt follows short h b (x ∷ xs) last s f e =
    let one = h x (flat_map text xs ++ last) s.0 (follows_all text is_spelt follows b xs last s.1 f) in
    ap (many take) (append_assoc (text x) (flat_map text xs) last)
    ∙ many_more take short (text x ++ (flat_map text xs ++ last)) x (flat_map text xs ++ last) one
    ∙ ap (λ q. (x ∷ q.0, q.1)) (many_complete take text is_spelt follows short h b xs last s.1 f e)

-- ---- a loop that takes them

-- so much was taken so far, and this is left
abbrev pub Gathers : {X : Type 0} → (List ℕ → Option (X × List ℕ)) → List ℕ → List X → List ℕ → Type 0
Gathers take list xs left = many take list ≡ (xs ++ (many take left).0, (many take left).1)

pub gathers_more : {X : Type 0} (take : List ℕ → Option (X × List ℕ)) → Shortens take → (list : List ℕ) (xs : List X) (left : List ℕ) (x : X) (rest : List ℕ) → Gathers take list xs left → take left ≡ Some (x, rest) → Gathers take list (xs ++ x ∷ []) rest
gathers_more take short list xs left x rest h e =
    h ∙ ap (λ q. (xs ++ q.0, q.1)) (many_more take short left x rest e)
    ∙ ap (λ q. (q, (many take rest).1)) (sym (append_assoc xs (x ∷ []) (many take rest).0))

pub gathers_end : {X : Type 0} (take : List ℕ → Option (X × List ℕ)) (list : List ℕ) (xs : List X) (left : List ℕ) → Gathers take list xs left → take left ≡ None → many take list ≡ (xs, left)
gathers_end take list xs left h e =
    h ∙ ap (λ q. (xs ++ q.0, q.1)) (many_end take left e) ∙ ap (λ q. (q, left)) (append-nil xs)

-- what is written isn't empty, so what is left is shorter
pub shortens : {X : Type 0} (take : List ℕ → Option (X × List ℕ)) (text : X → List ℕ) (is_spelt : X → Type 0) → Sound take text is_spelt → ((x : X) → 0 < length (text x)) → Shortens take
shortens take text is_spelt h some list x rest e =
    omega (arith, some x, ap length (h list x rest e).1, length-append (text x) rest)
