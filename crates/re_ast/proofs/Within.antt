-- A success ends at its start or later, and within the text. So the turns of a repetition never run out of fuel.
use Rattle.std.proofs.Common.{ℕ, zero, suc, ◌+◌, ◌-◌, Bool, true, false, not, ◌||◌, nat_lt, ◌==◌, List, [], ◌∷◌, ◌++◌, ◌≡◌, ◌≢◌, ◌≤◌, ◌<◌, length, refl, arith, add-one, if◌then◌else◌, Option, Some, None, sym, ap, ap₂, slice_get, slice_range, take, drop, length-drop, ltb-true, ◌&&◌, true≢false, ◌⊎◌, inl, inr, ⊎_elim}
use Rattle.std.specs.List.{filter, flat_map}
use Rattle.std.specs.Cmp.Lexicographic.{pointwise}
use Rattle.std.proofs.lemmas.List.{length-take}
use Rattle.std.proofs.lemmas.Bool.{eqb-false}
use Rattle.std.proofs.lemmas.Option.{slice_get_within}
use Rattle.re_ast.specs.declared.patterns.Flags.{Flags}
use Rattle.re_ast.specs.Tree.{Tree, empty, unit, dot, class, line_start, line_end, word, not_word, group, back, look, repeated, seq, nothing, alt}
use Rattle.re_ast.specs.Characters.{fits_at, is_alike}
use Rattle.re_ast.specs.Successes.{Ends, State, Span, succ, stay, where_fits, again, ahead, not_ahead, repeat, repeats, move_to, has_at, captured, clear, capture, less, is_none_left, prefer}
use Rattle.re_ast.specs.Laws.{Each, LiesAhead, Unfolds}

pub each_append : (P : State → Type 0) (xs ys : List State) → Each P xs → Each P ys → Each P (xs ++ ys)
each_append P [] ys a b = b
each_append P (x ∷ xs) ys a b = (a.0, each_append P xs ys a.1 b)

pub each_flat_map : (P Q : State → Type 0) (f : Ends) (xs : List State) → Each P xs → ((t : State) → P t → Each Q (f t)) → Each Q (flat_map f xs)
each_flat_map P Q f [] a h = tt
each_flat_map P Q f (x ∷ xs) a h = each_append Q (f x) (flat_map f xs) (h x a.0) (each_flat_map P Q f xs a.1 h)

pub each_imp : (P Q : State → Type 0) (xs : List State) → Each P xs → ((t : State) → P t → Q t) → Each Q xs
each_imp P Q [] a h = tt
each_imp P Q (x ∷ xs) a h = (h x a.0, each_imp P Q xs a.1 h)

-- what passed the test has P and passed it
abbrev pub Passed : (State → Type 0) → (State → Bool) → State → Type 0
Passed P keep t = P t × (keep t ≡ true)

keep_one : (P : State → Type 0) (keep : State → Bool) (x : State) (xs : List State) → P x → Each (Passed P keep) xs → (b : Bool) → b ≡ keep x → Each (Passed P keep) (if b then x ∷ xs else xs)
keep_one P keep x xs p a true e = ((p, sym e), a)
keep_one P keep x xs p a false e = a

pub each_filter : (P : State → Type 0) (keep : State → Bool) (xs : List State) → Each P xs → Each (Passed P keep) (filter keep xs)
each_filter P keep [] a = tt
each_filter P keep (x ∷ xs) a = keep_one P keep x (filter keep xs) a.0 (each_filter P keep xs a.1) (keep x) refl

-- two lists joined from equal pieces
pub flat_map_same : (P : State → Type 0) (f g : Ends) (xs : List State) → Each P xs → ((t : State) → P t → f t ≡ g t) → flat_map f xs ≡ flat_map g xs
flat_map_same P f g [] a h = refl
flat_map_same P f g (x ∷ xs) a h = ap₂ (λ u v. u ++ v) (h x a.0) (flat_map_same P f g xs a.1 h)

-- each end of f is at the start or behind it
abbrev pub IsForward : List ℕ → Ends → Type 0
IsForward s f = (st : State) → st.place ≤ length s → Each (LiesAhead s st.place) (f st)

pub and_parts : (a b : Bool) → (a && b) ≡ true → (a ≡ true) × (b ≡ true)
and_parts true b h = (refl, h)
and_parts false b h = absurd (true≢false (sym h))

pointwise_length : (eq : ℕ → ℕ → Bool) (xs ys : List ℕ) → pointwise eq xs ys ≡ true → length xs ≡ length ys
pointwise_length eq [] [] h = refl
pointwise_length eq [] (y ∷ ys) h = absurd (true≢false (sym h))
pointwise_length eq (x ∷ xs) [] h = absurd (true≢false (sym h))
pointwise_length eq (x ∷ xs) (y ∷ ys) h = ap suc (pointwise_length eq xs ys (and_parts _ _ h).1)

pub or_cases : (a b : Bool) → (a || b) ≡ true → (a ≡ true) ⊎ (b ≡ true)
or_cases true b h = inl refl
or_cases false b h = inr h

not_true : (a : Bool) → not a ≡ true → a ≡ false
not_true true h = absurd (true≢false (sym h))
not_true false h = refl

moved_on : (min at to : ℕ) → at ≤ to → (nat_lt 0 min || not (to == at)) ≡ true → (0 < min) ⊎ (at < to)
moved_on min at to le h =
    ⊎_elim (λ a. inl (ltb-true 0 min a)) (λ b. let ne : to ≢ at = eqb-false to at (not_true _ b) in inr (omega arith)) (or_cases _ _ h)

module _ (s : List ℕ) where
  each_if : (b : Bool) (xs ys : List State) (P : State → Type 0) → Each P xs → Each P ys → Each P (if b then xs else ys)
  each_if true xs ys P a c = a
  each_if false xs ys P a c = c

  each_prefer : (b : Bool) (xs ys : List State) (P : State → Type 0) → Each P xs → Each P ys → Each P (prefer b xs ys)
  each_prefer true xs ys P a c = each_append P ys xs c a
  each_prefer false xs ys P a c = each_append P xs ys a c

  stays : (at : ℕ) (st : State) → at ≤ st.place → st.place ≤ length s → Each (LiesAhead s at) (stay st)
  stays at st a b = ((a, b), tt)

  pub repeat_forward : (body : Ends) → IsForward s body → (lazy : Bool) (fuel min : ℕ) (max : Option ℕ) → IsForward s (repeat body lazy fuel min max)
  unfolding repeat
  repeat_forward body h lazy zero min max st w = tt
  repeat_forward body h lazy (suc fuel) min max st w =
      let P : State → Type 0 = LiesAhead s st.place in
      let keep : State → Bool = λ t. nat_lt 0 min || not (t.place == st.place) in
      let turns : Each P (flat_map (repeat body lazy fuel (min - 1) (less max)) (filter keep (body st))) =
      each_flat_map (Passed P keep) P (repeat body lazy fuel (min - 1) (less max)) (filter keep (body st))
      (each_filter P keep (body st) (h st w))
      (λ t p. each_imp (LiesAhead s t.place) P _ (repeat_forward body h lazy fuel (min - 1) (less max) t p.0.1) (λ u q. (omega arith, q.1))) in
      each_if (is_none_left max) (stay st) _ P (stays st.place st (omega arith) w)
      (each_if (nat_lt 0 min) _ _ P turns (each_prefer lazy _ (stay st) P turns (stays st.place st (omega arith) w)))

  read_forward : (fits : ℕ → Bool) (st : State) → st.place ≤ length s → (o : Option ℕ) → slice_get s st.place ≡ o → Each (LiesAhead s st.place) (if fits_at o fits then stay (move_to st (st.place + 1)) else [])
  read_forward fits st w None e = tt
  read_forward fits st w (Some u) e =
      let lt : st.place < length s = slice_get_within s st.place u e in
      each_if (fits u) _ _ (LiesAhead s st.place) ((omega arith, omega arith), tt) tt

  fits_within : (at : ℕ) (fits : ℕ → Bool) (o : Option ℕ) → slice_get s at ≡ o → fits_at o fits ≡ true → at < length s
  fits_within at fits None e h = absurd (cc)
  fits_within at fits (Some u) e h = slice_get_within s at u e

  has_within : (f : Flags) (at : ℕ) (part : List ℕ) → at ≤ length s → has_at f s at part ≡ true → at + length part ≤ length s
  has_within f at part w h =
      let e : length part ≡ length (take (length part) (drop at s)) = pointwise_length (is_alike f.ignore_case) part _ h in
      omega (arith, e, length-take (length part) (drop at s), length-drop at s)

  again_moves : (f : Flags) (st : State) (part : List ℕ) → st.place ≤ length s → (b : Bool) → has_at f s st.place part ≡ b → Each (LiesAhead s st.place) (if b then stay (move_to st (st.place + length part)) else [])
  again_moves f st part w false e = tt
  again_moves f st part w true e = ((omega arith, has_within f st.place part w e), tt)

  again_forward : (f : Flags) (c : Option Span) → IsForward s (again f s c)
  again_forward f None st w = stays st.place st (omega arith) w
  again_forward f (Some c) st w = again_moves f st (slice_range s c.0 c.1) w (has_at f s st.place (slice_range s c.0 c.1)) refl

  ahead_forward : (ts : List State) → IsForward s (ahead ts)
  ahead_forward [] st w = tt
  ahead_forward (t ∷ ts) st w = stays st.place (move_to t st.place) (omega arith) w

  not_ahead_forward : (ts : List State) → IsForward s (not_ahead ts)
  not_ahead_forward [] st w = stays st.place st (omega arith) w
  not_ahead_forward (t ∷ ts) st w = tt

  fits_forward : (b : Bool) → IsForward s (where_fits b)
  fits_forward b st w = each_if b (stay st) [] (LiesAhead s st.place) (stays st.place st (omega arith) w) tt

  pub succ_forward : (f : Flags) (p : Tree) → IsForward s (succ f s p)
  unfolding succ
  succ_forward f empty st w = stays st.place st (omega arith) w
  succ_forward f (unit u) st w = read_forward (λ v. is_alike f.ignore_case v u) st w (slice_get s st.place) refl
  succ_forward f dot st w = read_forward _ st w (slice_get s st.place) refl
  succ_forward f (class set) st w = read_forward _ st w (slice_get s st.place) refl
  succ_forward f line_start st w = fits_forward _ st w
  succ_forward f line_end st w = fits_forward _ st w
  succ_forward f word st w = fits_forward _ st w
  succ_forward f not_word st w = fits_forward _ st w
  succ_forward f (group k body) st w =
      each_flat_map (LiesAhead s st.place) (LiesAhead s st.place) (λ t. stay (capture k st.place t)) (succ f s body st) (succ_forward f body st w) (λ t p. (p, tt))
  succ_forward f (back k) st w = again_forward f (captured st.captures k) st w
  succ_forward f (look negative body) st w =
      each_if negative _ _ (LiesAhead s st.place) (not_ahead_forward (succ f s body st) st w) (ahead_forward (succ f s body st) st w)
  succ_forward f (repeated body min max lazy first past) st w =
      repeat_forward (λ t. succ f s body (clear first past t)) (λ t v. succ_forward f body (clear first past t) v) lazy (min + (length s - st.place) + 1) min max st w
  succ_forward f (seq a b) st w =
      each_flat_map (LiesAhead s st.place) (LiesAhead s st.place) (succ f s b) (succ f s a st) (succ_forward f a st w)
      (λ t p. each_imp (LiesAhead s t.place) (LiesAhead s st.place) _ (succ_forward f b t p.1) (λ u q. (omega arith, q.1)))
  succ_forward f nothing st w = tt
  succ_forward f (alt a b) st w = each_append (LiesAhead s st.place) _ _ (succ_forward f a st w) (succ_forward f b st w)

  -- more fuel than the turns that are left changes nothing
  pub repeat_fuel : (body : Ends) → IsForward s body → (lazy : Bool) (n m min : ℕ) (max : Option ℕ) (st : State) → st.place ≤ length s →
      min + (length s - st.place) < n → min + (length s - st.place) < m →
      repeat body lazy n min max st ≡ repeat body lazy m min max st
  unfolding repeat
  repeat_fuel body h lazy zero m min max st w p q = absurd (omega arith)
  repeat_fuel body h lazy (suc n) zero min max st w p q = absurd (omega arith)
  repeat_fuel body h lazy (suc n) (suc m) min max st w p q =
      let keep : State → Bool = λ t. nat_lt 0 min || not (t.place == st.place) in
      ap (λ (turns : List State). if is_none_left max then stay st else (if nat_lt 0 min then turns else prefer lazy turns (stay st)))
      (flat_map_same (Passed (LiesAhead s st.place) keep) (repeat body lazy n (min - 1) (less max)) (repeat body lazy m (min - 1) (less max)) (filter keep (body st))
      (each_filter (LiesAhead s st.place) keep (body st) (h st w))
      (λ t k. let moved : (0 < min) ⊎ (st.place < t.place) = moved_on min st.place t.place k.0.0 k.1 in
      repeat_fuel body h lazy n m (min - 1) (less max) t k.0.1 (omega arith) (omega arith)))

  -- a repetition, with no count of turns
  pub repeats_unfold : (body : Ends) → IsForward s body → (lazy : Bool) (min : ℕ) (max : Option ℕ) (st : State) → st.place ≤ length s →
      repeats (length s) body lazy min max st
      ≡ (if is_none_left max then stay st
      else (let turns : List State = flat_map (repeats (length s) body lazy (min - 1) (less max)) (filter (λ t. nat_lt 0 min || not (t.place == st.place)) (body st)) in
      if nat_lt 0 min then turns else prefer lazy turns (stay st)))
  unfolding repeat
  repeats_unfold body h lazy min max st w =
      let keep : State → Bool = λ t. nat_lt 0 min || not (t.place == st.place) in
      let n : ℕ = min + (length s - st.place) in
      rw add-one
      (ap (λ (turns : List State). if is_none_left max then stay st else (if nat_lt 0 min then turns else prefer lazy turns (stay st)))
      (flat_map_same (Passed (LiesAhead s st.place) keep) (repeat body lazy n (min - 1) (less max)) (repeats (length s) body lazy (min - 1) (less max)) (filter keep (body st))
      (each_filter (LiesAhead s st.place) keep (body st) (h st w))
      (λ t k. let moved : (0 < min) ⊎ (st.place < t.place) = moved_on min st.place t.place k.0.0 k.1 in
      repeat_fuel body h lazy n ((min - 1) + (length s - t.place) + 1) (min - 1) (less max) t k.0.1 (omega arith) (omega arith))))

  -- the same of a pattern's repetition
  pub unfolds : (f : Flags) (body : Tree) (min : ℕ) (max : Option ℕ) (lazy : Bool) (first past : ℕ) (st : State) → st.place ≤ length s →
      Unfolds f s body min max lazy first past st
  unfolding succ
  unfolds f body min max lazy first past st w =
      repeats_unfold (λ t. succ f s body (clear first past t)) (λ t v. succ_forward f body (clear first past t) v) lazy min max st w
