-- The run of a machine over a pattern: each step as None, each end state as Some, in order. The same cases as the successes.
use Rattle.re_ast.specs.declared.patterns.Flags.{Flags}
use Rattle.std.specs.Prelude.{ℕ, zero, suc, ◌+◌, ◌-◌, Bool, false, not, if◌then◌else◌, ◌==◌, nat_lt, List, [], ◌∷◌, ◌++◌, length, flat_map, map, Option, Some, None}
use Rattle.re_ast.specs.Tree.{Tree, empty, unit, dot, class, line_start, line_end, word, not_word, group, back, look, repeated, seq, nothing, alt}
use Rattle.js_units.specs.Characters.{is_line_end}
use Rattle.re_ast.specs.Characters.{is_alike, in_class}
use Rattle.re_ast.specs.Successes.{State, where_fits, read, again, captured, clear, capture, move_to, less, is_none_left, is_line_start, is_line_stop, is_boundary}

abbrev pub Run : Type 0
Run = List (Option State)

abbrev pub tick : Run → Run
tick r = None ∷ r

-- the end states alone
abbrev pub somes : Run → List State
somes [] = []
somes (None ∷ r) = somes r
somes (Some t ∷ r) = t ∷ somes r

abbrev pub all_some : List State → Run
all_some ts = map (λ t. Some t) ts

abbrev pub on : (State → Run) → Option State → Run
on f None = None ∷ []
on f (Some t) = f t

-- each end state goes on
abbrev pub and_then : (State → Run) → Run → Run
and_then f r = flat_map (on f) r

-- a lookahead's run, and then its answer
abbrev pub looked : Bool → State → Run → Run
looked negative st [] = tick (if negative then Some st ∷ [] else [])
looked negative st (None ∷ r) = None ∷ looked negative st r
looked negative st (Some t ∷ r) = tick (if negative then [] else Some (move_to t st.place) ∷ [])

abbrev pub is_at : Option ℕ → ℕ → Bool
is_at None at = false
is_at (Some start) at = at == start

abbrev pub unless_at : Option ℕ → State → Run → Run
unless_at start st ends = if is_at start st.place then [] else ends

abbrev pub prefer : Bool → Run → Run → Run
prefer lazy turns leave = if lazy then leave ++ turns else turns ++ leave

unfoldable pub repeat : (State → Run) → Bool → ℕ → ℕ → Option ℕ → State → Run
repeat body lazy zero min max st = []
repeat body lazy (suc fuel) min max st =
    if is_none_left max then Some st ∷ []
    else
    (let turns = tick (and_then (λ t. tick (unless_at (if min == 0 then Some st.place else None) t (repeat body lazy fuel (min - 1) (less max) t))) (body st)) in
    if nat_lt 0 min then turns else prefer lazy turns (Some st ∷ []))

abbrev pub repeats : ℕ → (State → Run) → Bool → ℕ → Option ℕ → State → Run
repeats end body lazy min max st = repeat body lazy (min + (end - st.place) + 1) min max st

module _ (flags : Flags) (s : List ℕ) where
  unfoldable pub runs : Tree → State → Run
  runs empty st = Some st ∷ []
  runs (unit u) st = all_some (read s (λ v. is_alike flags.ignore_case v u) st)
  runs dot st = all_some (read s (λ v. not (is_line_end v)) st)
  runs (class set) st = all_some (read s (in_class flags.ignore_case set) st)
  runs line_start st = all_some (where_fits (is_line_start flags s st.place) st)
  runs line_end st = all_some (where_fits (is_line_stop flags s st.place) st)
  runs word st = all_some (where_fits (is_boundary s st.place) st)
  runs not_word st = all_some (where_fits (not (is_boundary s st.place)) st)
  runs (group k body) st = tick (and_then (λ t. tick (Some (capture k st.place t) ∷ [])) (runs body st))
  runs (back k) st = all_some (again flags s (captured st.captures k) st)
  runs (look negative body) st = looked negative st (tick (runs body st))
  runs (repeated body min max lazy first past) st = repeats (length s) (λ t. runs body (clear first past t)) lazy min max st
  runs (seq a b) st = tick (and_then (λ t. tick (runs b t)) (runs a st))
  runs nothing st = []
  runs (alt a b) st = tick (runs a st) ++ tick (runs b st)
