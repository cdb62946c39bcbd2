-- Ascending numbers are told by their members.
use Rattle.std.proofs.Common.{◌≡◌, ℕ, suc, ◌<◌, ◌≤◌, List, [], ◌∷◌, Contains, refl, sym, subst, arith, inl, inr}
use Rattle.std.specs.Prelude.{◌⊎◌}
use Rattle.std.specs.List.{AllByRecursion}
use Rattle.std.specs.List.Sorted.{IsStrictlySortedBy}
use Rattle.std.specs.Ordering.{nat_cmp}
use Rattle.std.specs.declared.cmp.Ordering.TheVariants.{Less}
use Rattle.std.proofs.lemmas.Bool.{lt-ltb, le-ltb, cases_lt}
use Rattle.std.proofs.lemmas.Map.Keys.{sorted_tail, below_from_sorted}
use Rattle.js_values.specs.OwnKeys.{placed, ascending}
use Rattle.js_heap.proofs.Members.{here, there, cons_cases, none}

abbrev Rises : List ℕ → Type 0
Rises = IsStrictlySortedBy nat_cmp

pub less : (n m : ℕ) → n < m → nat_cmp n m ≡ Less
less n m h = rw (lt-ltb n m h) refl

below_all : (n : ℕ) (ms : List ℕ) → ((m : ℕ) → Contains ms m → n < m) → AllByRecursion (λ m. nat_cmp n m ≡ Less) ms
below_all n [] h = tt
below_all n (m ∷ ms) h = (less n m (h m (here m ms)), below_all n ms (λ k c. h k (there m k ms c)))

rises_cons : (n : ℕ) (ms : List ℕ) → ((m : ℕ) → Contains ms m → n < m) → Rises ms → Rises (n ∷ ms)
unfolding IsStrictlySortedBy
rises_cons n ms h s = (below_all n ms h, s)

head_below : (n : ℕ) (ms : List ℕ) → Rises (n ∷ ms) → (m : ℕ) → Contains ms m → n < m
head_below n ms s m c =
    let h = c.1 in
    let b = below_from_sorted (n ∷ ms) 0 (suc c.0) m s (omega arith) (omega arith) in
    let e = c.2 in
    omega arith

-- ---- one number at its place

placed_to : (n k : ℕ) (ms : List ℕ) → Contains (placed n ms) k → (n ≡ k) ⊎ Contains ms k
placed_to n k [] c = cons_cases n k [] c
placed_to n k (m ∷ ms) c = by (placed_to n k ms) (cases_lt n m) (cases_lt m n)
  where
    more : (n ≡ k) ⊎ Contains ms k → (n ≡ k) ⊎ Contains (m ∷ ms) k
    more (inl e) = inl e
    more (inr d) = inr (there m k ms d)

    behind : (Contains (placed n ms) k → (n ≡ k) ⊎ Contains ms k) → (m ≡ k) ⊎ Contains (placed n ms) k → (n ≡ k) ⊎ Contains (m ∷ ms) k
    behind rest (inl e) = inr (subst (λ (x : ℕ). Contains (m ∷ ms) x) e (here m ms))
    behind rest (inr d) = more (rest d)

    by : (Contains (placed n ms) k → (n ≡ k) ⊎ Contains ms k) → (n < m) ⊎ (m ≤ n) → (m < n) ⊎ (n ≤ m) → (n ≡ k) ⊎ Contains (m ∷ ms) k
    by rest (inl h) g = cons_cases n k (m ∷ ms) (rw (lt-ltb n m h) at c)
    by rest (inr h) (inl g) = behind rest (cons_cases m k (placed n ms) (rw (le-ltb n m h, lt-ltb m n g) at c))
    by rest (inr h) (inr g) = inr (rw (le-ltb n m h, le-ltb m n g) at c)

placed_itself : (n : ℕ) (ms : List ℕ) → Contains (placed n ms) n
placed_itself n [] = here n []
placed_itself n (m ∷ ms) = by (placed_itself n ms) (cases_lt n m) (cases_lt m n)
  where
    by : Contains (placed n ms) n → (n < m) ⊎ (m ≤ n) → (m < n) ⊎ (n ≤ m) → Contains (placed n (m ∷ ms)) n
    by rest (inl h) g = rw (lt-ltb n m h) (here n (m ∷ ms))
    by rest (inr h) (inl g) = rw (le-ltb n m h, lt-ltb m n g) (there m n (placed n ms) rest)
    by rest (inr h) (inr g) = let e : m ≡ n = omega arith in rw (le-ltb n m h, le-ltb m n g) (subst (λ (x : ℕ). Contains (m ∷ ms) x) e (here m ms))

placed_keeps : (n k : ℕ) (ms : List ℕ) → Contains ms k → Contains (placed n ms) k
placed_keeps n k [] c = absurd (none k c)
placed_keeps n k (m ∷ ms) c = by (placed_keeps n k ms) (cases_lt n m) (cases_lt m n)
  where
    behind : (Contains ms k → Contains (placed n ms) k) → (m ≡ k) ⊎ Contains ms k → Contains (m ∷ placed n ms) k
    behind rest (inl e) = subst (λ (x : ℕ). Contains (m ∷ placed n ms) x) e (here m (placed n ms))
    behind rest (inr d) = there m k (placed n ms) (rest d)

    by : (Contains ms k → Contains (placed n ms) k) → (n < m) ⊎ (m ≤ n) → (m < n) ⊎ (n ≤ m) → Contains (placed n (m ∷ ms)) k
    by rest (inl h) g = rw (lt-ltb n m h) (there n k (m ∷ ms) c)
    by rest (inr h) (inl g) = rw (le-ltb n m h, lt-ltb m n g) (behind rest (cons_cases m k ms c))
    by rest (inr h) (inr g) = rw (le-ltb n m h, le-ltb m n g) c

placed_rises : (n : ℕ) (ms : List ℕ) → Rises ms → Rises (placed n ms)
placed_rises n [] s = rises_cons n [] (λ k c. absurd (none k c)) s
placed_rises n (m ∷ ms) s = by (placed_rises n ms (sorted_tail nat_cmp m ms s)) (cases_lt n m) (cases_lt m n)
  where
    before : n < m → (k : ℕ) → (m ≡ k) ⊎ Contains ms k → n < k
    before h k (inl e) = omega arith
    before h k (inr d) = let b = head_below m ms s k d in omega arith

    behind : m < n → (k : ℕ) → (n ≡ k) ⊎ Contains ms k → m < k
    behind g k (inl e) = omega arith
    behind g k (inr d) = head_below m ms s k d

    by : Rises (placed n ms) → (n < m) ⊎ (m ≤ n) → (m < n) ⊎ (n ≤ m) → Rises (placed n (m ∷ ms))
    by rest (inl h) g = rw (lt-ltb n m h) (rises_cons n (m ∷ ms) (λ k c. before h k (cons_cases m k ms c)) s)
    by rest (inr h) (inl g) = rw (le-ltb n m h, lt-ltb m n g) (rises_cons m (placed n ms) (λ k c. behind g k (placed_to n k ms c)) rest)
    by rest (inr h) (inr g) = rw (le-ltb n m h, le-ltb m n g) s

-- ---- all numbers

pub sorted_ascending : (ns : List ℕ) → IsStrictlySortedBy nat_cmp (ascending ns)
unfolding IsStrictlySortedBy
sorted_ascending [] = tt
sorted_ascending (n ∷ ns) = placed_rises n (ascending ns) (sorted_ascending ns)

pub ascending_to : (k : ℕ) (ns : List ℕ) → Contains (ascending ns) k → Contains ns k
ascending_to k [] c = c
ascending_to k (n ∷ ns) c = by (ascending_to k ns) (placed_to n k (ascending ns) c)
  where
    by : (Contains (ascending ns) k → Contains ns k) → (n ≡ k) ⊎ Contains (ascending ns) k → Contains (n ∷ ns) k
    by rest (inl e) = subst (λ (x : ℕ). Contains (n ∷ ns) x) e (here n ns)
    by rest (inr d) = there n k ns (rest d)

pub ascending_from : (k : ℕ) (ns : List ℕ) → Contains ns k → Contains (ascending ns) k
ascending_from k [] c = c
ascending_from k (n ∷ ns) c = by (ascending_from k ns) (cons_cases n k ns c)
  where
    by : (Contains ns k → Contains (ascending ns) k) → (n ≡ k) ⊎ Contains ns k → Contains (placed n (ascending ns)) k
    by rest (inl e) = subst (λ (x : ℕ). Contains (placed n (ascending ns)) x) e (placed_itself n (ascending ns))
    by rest (inr d) = placed_keeps n k (ascending ns) (rest d)

-- strictly ascending lists with the same members are equal
pub same_sorted : (xs ys : List ℕ) → IsStrictlySortedBy nat_cmp xs → IsStrictlySortedBy nat_cmp ys → ((n : ℕ) → Contains xs n → Contains ys n) → ((n : ℕ) → Contains ys n → Contains xs n) → xs ≡ ys
same_sorted [] [] s t to from = refl
same_sorted [] (y ∷ ys) s t to from = absurd (none y (from y (here y ys)))
same_sorted (x ∷ xs) [] s t to from = absurd (none x (to x (here x xs)))
same_sorted (x ∷ xs) (y ∷ ys) s t to from = joined (same_sorted xs ys (sorted_tail nat_cmp x xs s) (sorted_tail nat_cmp y ys t))
  where
    low : (a b : ℕ) (bs : List ℕ) → Rises (b ∷ bs) → (b ≡ a) ⊎ Contains bs a → b ≤ a
    low a b bs r (inl e) = omega arith
    low a b bs r (inr c) = let h = head_below b bs r a c in omega arith

    heads : x ≡ y
    heads =
        let h = low x y ys t (cons_cases y x ys (to x (here x xs))) in
        let k = low y x xs s (cons_cases x y xs (from y (here y ys))) in
        omega arith

    past : (a b : ℕ) (cs bs : List ℕ) → a ≡ b → Rises (a ∷ cs) → ((n : ℕ) → Contains (a ∷ cs) n → Contains (b ∷ bs) n) → (n : ℕ) → Contains cs n → Contains bs n
    past a b cs bs e r f n c = by (cons_cases b n bs (f n (there a n cs c)))
      where
        by : (b ≡ n) ⊎ Contains bs n → Contains bs n
        by (inl g) = let h = head_below a cs r n c in absurd (omega arith)
        by (inr d) = d

    joined : (((n : ℕ) → Contains xs n → Contains ys n) → ((n : ℕ) → Contains ys n → Contains xs n) → xs ≡ ys) → x ∷ xs ≡ y ∷ ys
    joined rest = λ i. heads i ∷ rest (past x y xs ys heads s to) (past y x ys xs (sym heads) t from) i
