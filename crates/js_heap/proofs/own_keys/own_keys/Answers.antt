use Rattle.std.proofs.Common.{ℕ, List, subst, rules}
use Rattle.std.specs.Prelude.{bytes_eq}
use Rattle.std.specs.Cmp.Lexicographic.{nat_list_eq_equiv}
use Rattle.std.specs.List.Sorted.{IsPermutation, IsStableByKey}
use Rattle.std.specs.Ordering.{nat_cmp}
use Rattle.std.proofs.lemmas.List.Sorted.{IsNonDecreasingBy-from_sort_by_key, answers_always}
use Rattle.std.proofs.lemmas.Map.Keys.{IsDistinct-IsPermutation}
use Rattle.js_values.specs.OwnKeys.{own_keys, IsOwnKeys}
use Rattle.js_heap.specs.Sorting.{rank}
use Rattle.js_heap.proofs.Ordered.{ordered, own_keys_are, same_own_keys}
use Rattle.js_heap.proofs.own_keys.own_keys.Goals as goal

pub returns : goal.returns
returns c =
    let sorted = c.sort_by_key.new.self.items in
    let same = c.in_ok-keys.ensures in
    let moved : IsPermutation c.args.created.now sorted = subst (λ (l : List (List ℕ)). IsPermutation l sorted) same c.sort_by_key.ensures.permutation in
    let o : IsOwnKeys c.args.created.now sorted =
    ordered c.args.created.now sorted c.requires moved (IsNonDecreasingBy-from_sort_by_key rank _ c.in_ok-sort_by_key.ensures.sorted (λ a r q k. search rules))
    (subst (λ (l : List (List ℕ)). IsStableByKey rank nat_cmp l sorted) same (c.sort_by_key.ensures.stable rank (answers_always _ _ _ (λ f a r q k. search rules)))) in
    record {
      value = same_own_keys c.args.created.now sorted (own_keys c.args.created.now) o (own_keys_are c.args.created.now);
      order = o;
      distinct = IsDistinct-IsPermutation bytes_eq nat_list_eq_equiv.symm c.args.created.now sorted moved c.requires;
    }
