-- A run without its ticks is the list of successes.
use Rattle.re_ast.specs.declared.patterns.Flags.{Flags}
use Rattle.std.proofs.Common.{ℕ, zero, suc, ◌-◌, Bool, true, false, not, ◌||◌, nat_lt, List, [], ◌∷◌, ◌++◌, ◌≡◌, ◌==◌, refl, arith, if◌then◌else◌, Option, Some, None, ap, ap₂, ◌∙◌, lt-ltb}
use Rattle.std.specs.List.{flat_map, filter}
use Rattle.std.proofs.lemmas.Bool.{ne_eqb}
use Rattle.re_ast.specs.Tree.{Tree, empty, unit, dot, class, line_start, line_end, word, not_word, group, back, look, repeated, seq, nothing, alt}
use Rattle.re_ast.specs.Successes.{Ends, State, succ, stay, where_fits, read, again, ahead, not_ahead, captured, clear, capture, move_to, less, is_none_left}
use Rattle.re_ast.specs.Successes as plain
use Rattle.re_matcher.specs.Runs.{Run, tick, somes, all_some, and_then, looked, is_at, prefer, repeat, runs}

somes_append : (a b : Run) → somes (a ++ b) ≡ somes a ++ somes b
somes_append [] b = refl
somes_append (None ∷ a) b = somes_append a b
somes_append (Some t ∷ a) b = ap (λ v. t ∷ v) (somes_append a b)

somes_all : (ts : List State) → somes (all_some ts) ≡ ts
somes_all [] = refl
somes_all (t ∷ ts) = ap (λ v. t ∷ v) (somes_all ts)

-- going on keeps step where each way does
pub somes_then : (f : State → Run) (g : Ends) (r : Run) → ((t : State) → somes (f t) ≡ g t) → somes (and_then f r) ≡ flat_map g (somes r)
somes_then f g [] h = refl
somes_then f g (None ∷ r) h = somes_then f g r h
somes_then f g (Some t ∷ r) h = somes_append (f t) (and_then f r) ∙ ap₂ (λ u v. u ++ v) (h t) (somes_then f g r h)

plain_looked : Bool → State → List State → List State
plain_looked negative st found = if negative then not_ahead found st else ahead found st

somes_if : (b : Bool) (st : State) → somes (if b then Some st ∷ [] else []) ≡ (if b then stay st else [])
somes_if true st = refl
somes_if false st = refl

somes_if_not : (b : Bool) (st : State) → somes (if b then [] else Some st ∷ []) ≡ (if b then [] else stay st)
somes_if_not true st = refl
somes_if_not false st = refl

somes_looked : (negative : Bool) (st : State) (r : Run) → somes (looked negative st r) ≡ (if negative then not_ahead (somes r) st else ahead (somes r) st)
somes_looked negative st [] = somes_if negative st
somes_looked negative st (None ∷ r) = somes_looked negative st r
somes_looked negative st (Some t ∷ r) = somes_if_not negative (move_to t st.place)

kept_one : (f : Ends) (t : State) (rest : List State) (b : Bool) →
    (if b then [] else f t) ++ flat_map f rest ≡ flat_map f (if not b then t ∷ rest else rest)
kept_one f t rest true = refl
kept_one f t rest false = refl

moved_only : (f : Ends) (at : ℕ) (xs : List State) →
    flat_map (λ t. if t.place == at then [] else f t) xs ≡ flat_map f (filter (λ t. not (t.place == at)) xs)
moved_only f at [] = refl
moved_only f at (t ∷ ts) = ap (λ v. (if t.place == at then [] else f t) ++ v) (moved_only f at ts) ∙ kept_one f t (filter (λ t. not (t.place == at)) ts) (t.place == at)

all_kept : (f : Ends) (xs : List State) → flat_map f xs ≡ flat_map f (filter (λ t. true) xs)
all_kept f [] = refl
all_kept f (t ∷ ts) = ap (λ v. f t ++ v) (all_kept f ts)

turns_kept : (f : Ends) (min at : ℕ) (xs : List State) →
    flat_map (λ t. if is_at (if min == 0 then Some at else None) t.place then [] else f t) xs ≡ flat_map f (filter (λ t. nat_lt 0 min || not (t.place == at)) xs)
turns_kept f zero at xs = moved_only f at xs
turns_kept f (suc n) at xs =
    let e : (suc n == 0) ≡ false = ne_eqb (suc n) 0 (λ h. omega arith) in
    let l : nat_lt 0 (suc n) ≡ true = lt-ltb 0 (suc n) (omega arith) in
    rw (e, l) (all_kept f xs)

somes_unless : (b : Bool) (r : Run) (ts : List State) → somes r ≡ ts → somes (if b then [] else r) ≡ (if b then [] else ts)
somes_unless true r ts h = refl
somes_unless false r ts h = h

somes_prefer : (lazy : Bool) (r : Run) (st : State) (ts : List State) → somes r ≡ ts → somes (prefer lazy r (Some st ∷ [])) ≡ plain.prefer lazy ts (stay st)
somes_prefer true r st ts h = ap (λ v. st ∷ v) h
somes_prefer false r st ts h = somes_append r (Some st ∷ []) ∙ ap (λ v. v ++ stay st) h

somes_due : (due lazy : Bool) (r : Run) (st : State) (ts : List State) → somes r ≡ ts →
    somes (if due then r else prefer lazy r (Some st ∷ [])) ≡ (if due then ts else plain.prefer lazy ts (stay st))
somes_due true lazy r st ts h = h
somes_due false lazy r st ts h = somes_prefer lazy r st ts h

somes_spent : (spent : Bool) (r : Run) (st : State) (ts : List State) → somes r ≡ ts → somes (if spent then Some st ∷ [] else r) ≡ (if spent then stay st else ts)
somes_spent true r st ts h = refl
somes_spent false r st ts h = h

pub somes_repeat : (body : State → Run) (ends : Ends) → ((t : State) → somes (body t) ≡ ends t) → (lazy : Bool) (fuel min : ℕ) (max : Option ℕ) (st : State) →
    somes (repeat body lazy fuel min max st) ≡ plain.repeat ends lazy fuel min max st
unfolding repeat plain.repeat
somes_repeat body ends h lazy zero min max st = refl
somes_repeat body ends h lazy (suc fuel) min max st =
    let start : Option ℕ = if min == 0 then Some st.place else None in
    somes_spent (is_none_left max) _ st _
    (somes_due (nat_lt 0 min) lazy _ st _
    (somes_then _ (λ t. if is_at start t.place then [] else plain.repeat ends lazy fuel (min - 1) (less max) t) (body st)
    (λ t. somes_unless (is_at start t.place) _ _ (somes_repeat body ends h lazy fuel (min - 1) (less max) t))
    ∙ (ap (flat_map (λ t. if is_at start t.place then [] else plain.repeat ends lazy fuel (min - 1) (less max) t)) (h st)
    ∙ turns_kept (plain.repeat ends lazy fuel (min - 1) (less max)) min st.place (ends st))))

pub somes_runs : (flags : Flags) (s : List ℕ) (p : Tree) (st : State) → somes (runs flags s p st) ≡ succ flags s p st
unfolding runs succ
somes_runs flags s empty st = refl
somes_runs flags s (unit u) st = somes_all _
somes_runs flags s dot st = somes_all _
somes_runs flags s (class set) st = somes_all _
somes_runs flags s line_start st = somes_all _
somes_runs flags s line_end st = somes_all _
somes_runs flags s word st = somes_all _
somes_runs flags s not_word st = somes_all _
somes_runs flags s (group k body) st =
    somes_then _ (λ t. stay (capture k st.place t)) (runs flags s body st) (λ t. refl) ∙ ap (flat_map (λ t. stay (capture k st.place t))) (somes_runs flags s body st)
somes_runs flags s (back k) st = somes_all _
somes_runs flags s (look negative body) st =
    somes_looked negative st (tick (runs flags s body st)) ∙ ap (λ v. if negative then not_ahead v st else ahead v st) (somes_runs flags s body st)
somes_runs flags s (repeated body min max lazy first past) st =
    somes_repeat (λ t. runs flags s body (clear first past t)) (λ t. succ flags s body (clear first past t)) (λ t. somes_runs flags s body (clear first past t)) lazy _ min max st
somes_runs flags s (seq a b) st = somes_then _ (succ flags s b) (runs flags s a st) (λ t. somes_runs flags s b t) ∙ ap (flat_map (succ flags s b)) (somes_runs flags s a st)
somes_runs flags s nothing st = refl
somes_runs flags s (alt a b) st = somes_append (tick (runs flags s a st)) (tick (runs flags s b st)) ∙ ap₂ (λ u v. u ++ v) (somes_runs flags s a st) (somes_runs flags s b st)
