-- A search answers the first success at the least start that has one.
use Rattle.std.proofs.Common.{ℕ, zero, suc, ◌+◌, ◌-◌, ◌==◌, Bool, true, false, List, [], ◌∷◌, ◌++◌, map, ◌≡◌, ◌≢◌, ◌≤◌, ◌<◌, length, refl, arith, Option, Some, None, if◌then◌else◌, subst, ap, slice_get}
use Rattle.std.specs.List.{flat_map, range_with_len}
use Rattle.std.proofs.lemmas.Bool.{eqb-true, eqb-false}
use Rattle.re_ast.specs.declared.patterns.Pattern.{Pattern}
use Rattle.re_ast.specs.Successes.{State}
use Rattle.re_ast.specs.Execution.{Match, match_from, matches_at, successes_at, exec}
use Rattle.re_ast.specs.Laws.{NoneBegins, Finds}

module _ (p : Pattern) (s : List ℕ) where
  abbrev all_from : ℕ → ℕ → List Match
  all_from a n = flat_map (matches_at p s) (range_with_len a n)

  none_here : (a to i : ℕ) → successes_at p s a ≡ [] → NoneBegins p s (a + 1) to → a ≤ i → i < to → (b : Bool) → (a == i) ≡ b → successes_at p s i ≡ []
  none_here a to i e h le lt true t = subst (λ v. successes_at p s v ≡ []) (eqb-true a i t) e
  none_here a to i e h le lt false t = let ne : a ≢ i = eqb-false a i t in h i (omega arith) lt

  none_more : (a to : ℕ) → successes_at p s a ≡ [] → NoneBegins p s (a + 1) to → NoneBegins p s a to
  none_more a to e h = λ i le lt. none_here a to i e h le lt (a == i) refl

  passes_on : (a to : ℕ) (o : Option Match) → successes_at p s a ≡ [] → Finds p s (a + 1) to o → Finds p s a to o
  passes_on a to None e h = none_more a to e h
  passes_on a to (Some m) e h = record {
    least = none_more a m.start e h.least;
    from_start = omega (arith, h.from_start);
    within = h.within;
    first = h.first;
  }

  head_is : (a to : ℕ) (xs : List State) (more : List Match) → a < to → successes_at p s a ≡ xs → Finds p s (a + 1) to (slice_get more 0) →
      Finds p s a to (slice_get (map (match_from a) xs ++ more) 0)
  head_is a to [] more lt e h = passes_on a to (slice_get more 0) e h
  head_is a to (x ∷ xs) more lt e h = record {
    least = λ i le less. absurd (omega arith);
    from_start = omega arith;
    within = lt;
    first = ap (λ (v : List State). slice_get v 0) e;
  }

  finds_all : (n a to : ℕ) → a + n ≡ to → Finds p s a to (slice_get (all_from a n) 0)
  finds_all zero a to e = λ i le lt. absurd (omega arith)
  finds_all (suc n) a to e =
      head_is a to (successes_at p s a) (all_from (a + 1) n) (omega arith) refl (finds_all n (a + 1) to (omega arith))

  past_last : (b : Bool) (from end : ℕ) → from ≤ end → from + (if b then 1 else end - from + 1) ≡ (if b then from else end) + 1
  past_last true from end le = omega arith
  past_last false from end le = omega arith

  pub finds : (from : ℕ) → from ≤ length s → Finds p s from ((if p.flags.sticky then from else length s) + 1) (exec p s from)
  finds from le = finds_all (if p.flags.sticky then 1 else length s - from + 1) from _ (past_last p.flags.sticky from (length s) le)
