-- A stable sort by rank gives the standard's order.
use Rattle.std.proofs.Common.{◌≡◌, ℕ, suc, ◌<◌, ◌≤◌, Bool, true, false, cond, List, [], ◌∷◌, ◌++◌, length, get_or, map, filter, Option, Some, None, Contains, refl, sym, ap, subst, ◌∙◌, arith, inl, inr}
use Rattle.std.specs.Prelude.{◌⊎◌, ◌≢◌, not, ◌&&◌, is_some, bytes_eq, decimal}
use Rattle.std.specs.Cmp.Lexicographic.{bytes_decides, nat_list_eq_equiv}
use Rattle.std.specs.List.{AllByRecursion, IsDistinct, filter_map, cons_option}
use Rattle.std.specs.List.Sorted.{IsPermutation, IsNonDecreasingBy, IsStableByKey, IsStrictlySortedBy, ties}
use Rattle.std.specs.Option.{unwrap_or}
use Rattle.std.specs.Ordering.{nat_cmp, is_lt}
use Rattle.std.specs.declared.cmp.Ordering.TheVariants.{Less}
use Rattle.std.proofs.lemmas.List.Elements.{filter_agree}
use Rattle.std.proofs.lemmas.List.Sorted.{Contains-permutation, IsPermutation-sym}
use Rattle.std.proofs.lemmas.Map.Keys.{IsDistinct-head, IsDistinct-tail, IsDistinct-IsPermutation, IsStrictlyIncreasing-from_sorted, sorted_from_strictly_increasing}
use Rattle.js_values.specs.OwnKeys.{array_index, is_name, ascending, own_keys, IsIndexText, IsOwnKeys}
use Rattle.js_heap.specs.Sorting.{rank}
use Rattle.js_heap.proofs.Ascending.{less, same_sorted, sorted_ascending, ascending_to, ascending_from}
use Rattle.js_heap.proofs.Members.{here, there, cons_cases, none}
use Rattle.js_heap.proofs.Numerals.{index_text, text_index}

and_false : (a : Bool) → (a && false) ≡ false
and_false true = refl
and_false false = refl

-- ---- keys, by what finds the number of an array index

module _ (index : List ℕ → Option ℕ) (text : (key : List ℕ) (n : ℕ) → index key ≡ Some n → IsIndexText n key) (found : (key : List ℕ) (n : ℕ) → IsIndexText n key → index key ≡ Some n) where
  abbrev rank_of : List ℕ → ℕ
  rank_of key = unwrap_or (index key) 4294967295

  abbrev names : List ℕ → Bool
  names key = not (is_some (index key))

  rank_some : (key : List ℕ) (n : ℕ) → index key ≡ Some n → rank_of key ≡ n
  rank_some key n e = ap (λ (o : Option ℕ). unwrap_or o 4294967295) e

  rank_none : (key : List ℕ) → index key ≡ None → rank_of key ≡ 4294967295
  rank_none key e = ap (λ (o : Option ℕ). unwrap_or o 4294967295) e

  name_from_rank : (key : List ℕ) → 4294967295 ≤ rank_of key → index key ≡ None
  name_from_rank key high = by (index key) refl
    where
      by : (o : Option ℕ) → index key ≡ o → index key ≡ None
      by None e = e
      by (Some n) e = let r = rank_some key n e in let m = (text key n e).most in absurd (omega (arith, high))

  names_only : (ys : List (List ℕ)) → ((j : ℕ) → j < length ys → 4294967295 ≤ rank_of (get_or ys j [])) → (filter_map index ys ≡ []) × (filter names ys ≡ ys)
  names_only [] each = (refl, refl)
  names_only (y ∷ ys) each =
      let e = name_from_rank y (each 0 (omega arith)) in
      let rest = names_only ys (λ j h. each (suc j) (omega (arith, h))) in
      (ap (λ (o : Option ℕ). cons_option o (filter_map index ys)) e ∙ rest.0, ap (λ (o : Option ℕ). cond (not (is_some o)) (y ∷ filter names ys) (filter names ys)) e ∙ ap (λ (l : List (List ℕ)). y ∷ l) rest.1)

  tail : (y : List ℕ) (ys : List (List ℕ)) → IsNonDecreasingBy rank_of (y ∷ ys) → IsNonDecreasingBy rank_of ys
  tail y ys s = λ i j d h k. s (suc i) (suc j) d (omega (arith, h)) (omega (arith, k))

  later : (y : List ℕ) (ys : List (List ℕ)) → IsNonDecreasingBy rank_of (y ∷ ys) → (j : ℕ) → j < length ys → rank_of y ≤ rank_of (get_or ys j [])
  later y ys s j h = s 0 (suc j) [] (omega arith) (omega (arith, h))

  -- the indexes' keys, and then the names
  split : (ys : List (List ℕ)) → IsNonDecreasingBy rank_of ys → ys ≡ map decimal (filter_map index ys) ++ filter names ys
  split [] s = refl
  split (y ∷ ys) s = by (split ys (tail y ys s)) (index y) refl
    where
      by : ys ≡ map decimal (filter_map index ys) ++ filter names ys → (o : Option ℕ) → index y ≡ o → y ∷ ys ≡ map decimal (cons_option o (filter_map index ys)) ++ cond (not (is_some o)) (y ∷ filter names ys) (filter names ys)
      by rest (Some n) e = λ i. (text y n e).text i ∷ rest i
      by rest None e =
          let r = rank_none y e in
          let o = names_only ys (λ j h. let l = later y ys s j h in omega arith) in
          sym (ap (λ (l : List ℕ). map decimal l ++ (y ∷ filter names ys)) o.0 ∙ ap (λ (l : List (List ℕ)). y ∷ l) o.1)

  above : (y : List ℕ) (n : ℕ) → y ≡ decimal n → (ys : List (List ℕ)) → ((j : ℕ) → j < length ys → n ≤ rank_of (get_or ys j [])) → AllByRecursion (λ z. bytes_eq y z ≡ false) ys
      → AllByRecursion (λ m. nat_cmp n m ≡ Less) (filter_map index ys)
  above y n e [] each apart = tt
  above y n e (z ∷ ys) each apart = by (above y n e ys (λ j h. each (suc j) (omega (arith, h))) apart.1) (index z) refl
    where
      differ : (m : ℕ) → index z ≡ Some m → n ≢ m
      differ m f same = let t : bytes_eq y z ≡ true = (bytes_decides y z).1 (e ∙ ap decimal same ∙ sym (text z m f).text) in let u = apart.0 in cc

      by : AllByRecursion (λ m. nat_cmp n m ≡ Less) (filter_map index ys) → (o : Option ℕ) → index z ≡ o → AllByRecursion (λ m. nat_cmp n m ≡ Less) (cons_option o (filter_map index ys))
      by rest None f = rest
      by rest (Some m) f = (less n m (let a = each 0 (omega arith) in let r = rank_some z m f in let d = differ m f in omega arith), rest)

  rising : (ys : List (List ℕ)) → IsNonDecreasingBy rank_of ys → IsDistinct bytes_eq ys → IsStrictlySortedBy nat_cmp (filter_map index ys)
  unfolding IsStrictlySortedBy
  rising [] s d = tt
  rising (y ∷ ys) s d = by (rising ys (tail y ys s) (IsDistinct-tail bytes_eq y ys d)) (index y) refl
    where
      by : IsStrictlySortedBy nat_cmp (filter_map index ys) → (o : Option ℕ) → index y ≡ o → IsStrictlySortedBy nat_cmp (cons_option o (filter_map index ys))
      by rest None e = rest
      by rest (Some n) e = (above y n (text y n e).text ys (λ j h. let r = rank_some y n e in let l = later y ys s j h in omega arith) (IsDistinct-head bytes_eq y ys d), rest)

  member_to : (ys : List (List ℕ)) (n : ℕ) → Contains (filter_map index ys) n → (n ≤ 4294967294) × Contains ys (decimal n)
  member_to [] n c = absurd (none n c)
  member_to (y ∷ ys) n c = by (λ d. let r = member_to ys n d in (r.0, there y (decimal n) ys r.1)) (index y) refl c
    where
      either : (m : ℕ) → index y ≡ Some m → (Contains (filter_map index ys) n → (n ≤ 4294967294) × Contains (y ∷ ys) (decimal n)) → (m ≡ n) ⊎ Contains (filter_map index ys) n → (n ≤ 4294967294) × Contains (y ∷ ys) (decimal n)
      either m e more (inl same) = let t = text y m e in (subst (λ (k : ℕ). k ≤ 4294967294) same t.most, subst (λ (k : List ℕ). Contains (y ∷ ys) k) (t.text ∙ ap decimal same) (here y ys))
      either m e more (inr d) = more d

      by : (Contains (filter_map index ys) n → (n ≤ 4294967294) × Contains (y ∷ ys) (decimal n)) → (o : Option ℕ) → index y ≡ o → Contains (cons_option o (filter_map index ys)) n → (n ≤ 4294967294) × Contains (y ∷ ys) (decimal n)
      by more None e d = more d
      by more (Some m) e d = either m e more (cons_cases m n (filter_map index ys) d)

  member_from : (ys : List (List ℕ)) (n : ℕ) → n ≤ 4294967294 → Contains ys (decimal n) → Contains (filter_map index ys) n
  member_from [] n most c = absurd (none (decimal n) c)
  member_from (y ∷ ys) n most c = either (member_from ys n most) (cons_cases y (decimal n) ys c)
    where
      by : Contains (filter_map index ys) n → (o : Option ℕ) → Contains (cons_option o (filter_map index ys)) n
      by rest None = rest
      by rest (Some m) = there m n (filter_map index ys) rest

      either : (Contains ys (decimal n) → Contains (filter_map index ys) n) → (y ≡ decimal n) ⊎ Contains ys (decimal n) → Contains (filter_map index (y ∷ ys)) n
      either rest (inl same) = subst (λ (o : Option ℕ). Contains (cons_option o (filter_map index ys)) n) (sym (found y n (record { most = most; text = same }))) (here n (filter_map index ys))
      either rest (inr d) = by (rest d) (index y)

  name_ties : index [] ≡ None → (y : List ℕ) → ties (λ a b. is_lt (nat_cmp (rank_of a) (rank_of b))) [] y ≡ names y
  name_ties e y = by (index y) refl
    where
      by : (o : Option ℕ) → index y ≡ o → (not (is_lt (nat_cmp (unwrap_or (index []) 4294967295) (unwrap_or o 4294967295))) && not (is_lt (nat_cmp (unwrap_or o 4294967295) (unwrap_or (index []) 4294967295)))) ≡ not (is_some o)
      by None f = rw e refl
      by (Some n) f =
          let most = (text y n f).most in
          rw e (rw (less n 4294967295 (omega arith)) (and_false _))

-- the keys of an object after a stable sort by rank
pub ordered : (xs ys : List (List ℕ)) → IsDistinct bytes_eq xs → IsPermutation xs ys → IsNonDecreasingBy rank ys → IsStableByKey rank nat_cmp xs ys → IsOwnKeys xs ys
ordered xs ys distinct moved sorted stable = record {
  indexes = filter_map array_index ys;
  ascending = IsStrictlyIncreasing-from_sorted (filter_map array_index ys) (rising array_index index_text text_index ys sorted (IsDistinct-IsPermutation bytes_eq nat_list_eq_equiv.symm xs ys moved distinct));
  each = λ n. (
    λ c. let r = member_to array_index index_text text_index ys n c in (r.0, Contains-permutation ys xs (decimal n) (IsPermutation-sym xs ys moved) r.1),
    λ h. member_from array_index index_text text_index ys n h.0 (Contains-permutation xs ys (decimal n) moved h.1),
  );
  keys_are = split array_index index_text text_index ys sorted
      ∙ ap (λ (l : List (List ℕ)). map decimal (filter_map array_index ys) ++ l) (sym (filter_agree _ is_name (name_ties array_index index_text text_index refl) ys) ∙ stable [] ∙ filter_agree _ is_name (name_ties array_index index_text text_index refl) xs);
}

-- `own_keys` gives the standard's order
pub own_keys_are : (created : List (List ℕ)) → IsOwnKeys created (own_keys created)
own_keys_are created = record {
  indexes = ascending (filter_map array_index created);
  ascending = IsStrictlyIncreasing-from_sorted _ (sorted_ascending (filter_map array_index created));
  each = λ n. (
    λ c. member_to array_index index_text text_index created n (ascending_to n (filter_map array_index created) c),
    λ h. ascending_from n (filter_map array_index created) (member_from array_index index_text text_index created n h.0 h.1),
  );
  keys_are = refl;
}

-- and the standard leaves no choice
pub same_own_keys : (created a b : List (List ℕ)) → IsOwnKeys created a → IsOwnKeys created b → a ≡ b
same_own_keys created a b h k =
    let same = same_sorted h.indexes k.indexes (sorted_from_strictly_increasing _ h.ascending) (sorted_from_strictly_increasing _ k.ascending) (λ n c. (k.each n).1 ((h.each n).0 c)) (λ n c. (h.each n).1 ((k.each n).0 c)) in
    h.keys_are ∙ ap (λ (l : List ℕ). map decimal l ++ filter is_name created) same ∙ sym k.keys_are
