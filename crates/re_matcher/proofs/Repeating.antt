-- One turn of a repetition, and the turns after it.
use Rattle.re_ast.specs.declared.patterns.Flags.{Flags}
use Rattle.std.proofs.Common.{ℕ, zero, suc, ◌+◌, ◌-◌, Bool, true, false, nat_lt, nat_le, ◌&&◌, List, [], ◌∷◌, ◌++◌, ◌≡◌, ◌≤◌, ◌<◌, ◌==◌, length, refl, arith, if◌then◌else◌, Option, Some, None, sym, subst, ap, ap₂, ◌∙◌, drop, get_or, drop-cons, add-one, append_assoc, lt-ltb, le-ltb, ◌≢◌, ◌⊎◌, inl, inr}
use Rattle.std.proofs.lemmas.Bool.{eqb-false}
use Rattle.re_ast.specs.Tree.{tree_of}
use Rattle.re_ast.specs.Successes.{State, Span, clear, cleared, less, is_none_left}
use Rattle.re_ast.specs.Laws.{Each, LiesAhead}
use Rattle.re_ast.proofs.Within.{succ_forward}
use Rattle.re_matcher.specs.Runs.{Run, tick, somes, and_then, is_at, unless_at, repeat, repeats, prefer, runs}
use Rattle.re_matcher.proofs.Runs.{somes_runs}
use Rattle.re_matcher.specs.declared.frames.Turn.{Turn}
use Rattle.re_matcher.specs.declared.frames.Item.TheVariants as item
use Rattle.re_matcher.specs.Pending.{item_ends}

-- pieces that agree where the ends lie
on_each : (P : State → Type 0) (f g : State → Run) (r : Run) → Each P (somes r) → ((t : State) → P t → f t ≡ g t) → and_then f r ≡ and_then g r
on_each P f g [] e h = refl
on_each P f g (None ∷ r) e h = ap (λ v. None ∷ v) (on_each P f g r e h)
on_each P f g (Some t ∷ r) e h = ap₂ (λ u v. u ++ v) (h t e.0) (on_each P f g r e.1 h)

unless_same : (b : Bool) (x y : Run) → (b ≡ false → x ≡ y) → (if b then [] else x) ≡ (if b then [] else y)
unless_same true x y h = refl
unless_same false x y h = h refl

moved_on : (min at to : ℕ) → at ≤ to → is_at (if min == 0 then Some at else None) to ≡ false → (0 < min) ⊎ (at < to)
moved_on zero at to le h = let ne : to ≢ at = eqb-false to at h in inr (omega arith)
moved_on (suc n) at to le h = inl (omega arith)

-- each end of the run is at the start or behind it
abbrev pub IsForward : List ℕ → (State → Run) → Type 0
IsForward s f = (st : State) → st.place ≤ length s → Each (LiesAhead s st.place) (somes (f st))

module _ (s : List ℕ) where
  pub repeat_fuel : (body : State → Run) → IsForward s body → (lazy : Bool) (n m min : ℕ) (max : Option ℕ) (st : State) → st.place ≤ length s →
      min + (length s - st.place) < n → min + (length s - st.place) < m →
      repeat body lazy n min max st ≡ repeat body lazy m min max st
  unfolding repeat
  repeat_fuel body h lazy zero m min max st w p q = absurd (omega arith)
  repeat_fuel body h lazy (suc n) zero min max st w p q = absurd (omega arith)
  repeat_fuel body h lazy (suc n) (suc m) min max st w p q =
      let start : Option ℕ = if min == 0 then Some st.place else None in
      ap (λ (turns : Run). if is_none_left max then Some st ∷ [] else (if nat_lt 0 min then None ∷ turns else prefer lazy (None ∷ turns) (Some st ∷ [])))
      (on_each (LiesAhead s st.place) _ _ (body st) (h st w)
      (λ t k. ap (λ v. None ∷ v) (unless_same (is_at start t.place) _ _ (λ b.
      let moved : (0 < min) ⊎ (st.place < t.place) = moved_on min st.place t.place k.0 b in
      repeat_fuel body h lazy n m (min - 1) (less max) t k.1 (omega arith) (omega arith)))))

  pub repeats_unfold : (body : State → Run) → IsForward s body → (lazy : Bool) (min : ℕ) (max : Option ℕ) (st : State) → st.place ≤ length s →
      repeats (length s) body lazy min max st
      ≡ (if is_none_left max then Some st ∷ []
      else (let turns : Run = tick (and_then (λ t. tick (unless_at (if min == 0 then Some st.place else None) t (repeats (length s) body lazy (min - 1) (less max) t))) (body st)) in
      if nat_lt 0 min then turns else prefer lazy turns (Some st ∷ [])))
  unfolding repeat
  repeats_unfold body h lazy min max st w =
      let start : Option ℕ = if min == 0 then Some st.place else None in
      let n : ℕ = min + (length s - st.place) in
      rw add-one
      (ap (λ (turns : Run). if is_none_left max then Some st ∷ [] else (if nat_lt 0 min then None ∷ turns else prefer lazy (None ∷ turns) (Some st ∷ [])))
      (on_each (LiesAhead s st.place) _ _ (body st) (h st w)
      (λ t k. ap (λ v. None ∷ v) (unless_same (is_at start t.place) _ _ (λ b.
      let moved : (0 < min) ⊎ (st.place < t.place) = moved_on min st.place t.place k.0 b in
      repeat_fuel body h lazy n ((min - 1) + (length s - t.place) + 1) (min - 1) (less max) t k.1 (omega arith) (omega arith))))))

abbrev pub after : Turn → ℕ → Turn
after t at = record t { min = t.min - 1; max = less t.max; start = if t.min == 0 then Some at else None }

module _ (flags : Flags) (s : List ℕ) where
  abbrev pub inner : Turn → State → Run
  inner t u = runs flags s (tree_of t.body.now) (clear t.first t.past u)

  inner_forward : (t : Turn) → IsForward s (inner t)
  inner_forward t u w = subst (Each (LiesAhead s u.place)) (sym (somes_runs flags s (tree_of t.body.now) (clear t.first t.past u))) (succ_forward s flags (tree_of t.body.now) (clear t.first t.past u) w)

  -- what follows one more turn
  abbrev pub further : Turn → State → Run
  further t st = tick (and_then (λ u. tick (item_ends flags s (item.Turn (after t st.place)) u)) (inner t st))

  pub turn_unfold : (t : Turn) (st : State) → st.place ≤ length s →
      repeats (length s) (inner t) t.lazy t.min t.max st
      ≡ (if is_none_left t.max then Some st ∷ [] else (if nat_lt 0 t.min then further t st else prefer t.lazy (further t st) (Some st ∷ [])))
  turn_unfold t st w = repeats_unfold s (inner t) (inner_forward t) t.lazy t.min t.max st w

  pub turn_back : (t : Turn) (st : State) → is_at t.start st.place ≡ true → [] ≡ item_ends flags s (item.Turn t) st
  turn_back t st h = rw h refl

  pub turn_spent : (t : Turn) (st : State) → st.place ≤ length s → is_at t.start st.place ≡ false → is_none_left t.max ≡ true → Some st ∷ [] ≡ item_ends flags s (item.Turn t) st
  turn_spent t st w h n = rw (h, turn_unfold t st w, n) refl

  same_further : (t r : Turn) (st u : State) → r ≡ after t st.place → u ≡ clear t.first t.past st →
      tick (and_then (λ w. tick (item_ends flags s (item.Turn r) w)) (runs flags s (tree_of t.body.now) u)) ≡ further t st
  same_further t r st u er eu = rw (er, eu) refl

  pub turn_due : (t r : Turn) (st u : State) → st.place ≤ length s → is_at t.start st.place ≡ false → is_none_left t.max ≡ false → r ≡ after t st.place → u ≡ clear t.first t.past st → 0 < t.min →
      tick (and_then (λ w. tick (item_ends flags s (item.Turn r) w)) (runs flags s (tree_of t.body.now) u)) ≡ item_ends flags s (item.Turn t) st
  turn_due t r st u w h n er eu p =
      let l : nat_lt 0 t.min ≡ true = lt-ltb 0 t.min p in
      same_further t r st u er eu ∙ rw (h, turn_unfold t st w, n, l) refl

  pub turn_lazy : (t r : Turn) (st u : State) → st.place ≤ length s → is_at t.start st.place ≡ false → is_none_left t.max ≡ false → r ≡ after t st.place → u ≡ clear t.first t.past st → t.min ≤ 0 → t.lazy ≡ true →
      (Some st ∷ []) ++ tick (and_then (λ w. tick (item_ends flags s (item.Turn r) w)) (runs flags s (tree_of t.body.now) u)) ≡ item_ends flags s (item.Turn t) st
  turn_lazy t r st u w h n er eu p z =
      let l : nat_lt 0 t.min ≡ false = le-ltb 0 t.min p in
      ap (λ v. (Some st ∷ []) ++ v) (same_further t r st u er eu) ∙ rw (h, turn_unfold t st w, n, l, z) refl

  pub turn_greedy : (t r : Turn) (st u : State) → st.place ≤ length s → is_at t.start st.place ≡ false → is_none_left t.max ≡ false → r ≡ after t st.place → u ≡ clear t.first t.past st → t.min ≤ 0 → t.lazy ≡ false →
      tick (and_then (λ w. tick (item_ends flags s (item.Turn r) w)) (runs flags s (tree_of t.body.now) u)) ++ (Some st ∷ []) ≡ item_ends flags s (item.Turn t) st
  turn_greedy t r st u w h n er eu p z =
      let l : nat_lt 0 t.min ≡ false = le-ltb 0 t.min p in
      ap (λ v. v ++ (Some st ∷ [])) (same_further t r st u er eu) ∙ rw (h, turn_unfold t st w, n, l, z) refl

-- one more group was copied
pub cleared_more : (first past i : ℕ) (cs done : List (Option Span)) (d y : Option Span) → i < length cs →
    y ≡ (if nat_le first (i + 1) && nat_lt (i + 1) past then None else get_or cs i d) →
    done ++ cleared first past (i + 1) (drop i cs) ≡ (done ++ y ∷ []) ++ cleared first past (i + 1 + 1) (drop (i + 1) cs)
cleared_more first past i cs done d y w ey =
    let split : drop i cs ≡ get_or cs i d ∷ drop (i + 1) cs = rw add-one (drop-cons cs i d w) in
    rw (ey, split) (sym (append_assoc done ((if nat_le first (i + 1) && nat_lt (i + 1) past then None else get_or cs i d) ∷ []) (cleared first past (i + 1 + 1) (drop (i + 1) cs))))
