-- The successes of a pattern: from one state, every end state, in order of preference (ECMA-262, section 22.2.2).
-- The standard gives each part a matcher that calls a continuation until one accepts; this is the list of all states that it would be called with.
use Rattle.std.specs.Prelude.{ℕ, zero, suc, ◌+◌, ◌-◌, Bool, true, false, not, ◌&&◌, ◌||◌, if◌then◌else◌, ◌==◌, nat_lt, nat_le, List, [], ◌∷◌, ◌++◌, length, drop, filter, flat_map, Option, Some, None, slice_get, slice_range, slice_set}
use Rattle.std.specs.List.{starts_with}
use Rattle.re_ast.specs.declared.patterns.Flags.{Flags}
use Rattle.re_ast.specs.Tree.{Tree, empty, unit, dot, class, line_start, line_end, word, not_word, group, back, look, repeated, seq, nothing, alt}
use Rattle.js_units.specs.Characters.{is_line_end}
use Rattle.re_ast.specs.Characters.{fits_at, is_alike, in_class, is_word}

-- from the first place up to the second
abbrev pub Span : Type 0
Span = ℕ × ℕ

-- MatchState (22.2.2.1): a place in the text and what each group captured, group 1 first
pub record State : Type 0 where
  pub place : ℕ
  pub captures : List (Option Span)

abbrev pub Ends : Type 0
Ends = State → List State

abbrev pub stay : Ends
stay st = st ∷ []

abbrev pub where_fits : Bool → Ends
where_fits b st = if b then stay st else []

abbrev pub move_to : State → ℕ → State
move_to st at = record st { place = at }

-- ---- captures

-- the groups from `first` up to `past` undefined; `at` is the number of the list's first group
abbrev pub cleared : ℕ → ℕ → ℕ → List (Option Span) → List (Option Span)
cleared first past at [] = []
cleared first past at (c ∷ cs) =
    (if nat_le first at && nat_lt at past then None else c) ∷ cleared first past (at + 1) cs

abbrev pub clear : ℕ → ℕ → State → State
clear first past st = record st { captures = cleared first past 1 st.captures }

abbrev pub capture : ℕ → ℕ → State → State
capture k from st = record st { captures = slice_set st.captures (k - 1) (Some (from, st.place)) }

abbrev pub flat : Option (Option Span) → Option Span
flat None = None
flat (Some c) = c

abbrev pub captured : List (Option Span) → ℕ → Option Span
captured cs k = flat (slice_get cs (k - 1))

-- ---- RepeatMatcher (22.2.2.3.1)

abbrev pub less : Option ℕ → Option ℕ
less None = None
less (Some n) = Some (n - 1)

abbrev pub is_none_left : Option ℕ → Bool
is_none_left None = false
is_none_left (Some n) = n == 0

abbrev pub prefer : Bool → List State → List State → List State
prefer lazy turns leave = if lazy then leave ++ turns else turns ++ leave

-- at most `fuel` turns of `body`: a turn begun with min 0 that ends where it began is dropped
unfoldable pub repeat : Ends → Bool → ℕ → ℕ → Option ℕ → Ends
repeat body lazy zero min max st = []
repeat body lazy (suc fuel) min max st =
    if is_none_left max then stay st
    else
    (let turns = flat_map (repeat body lazy fuel (min - 1) (less max)) (filter (λ t. nat_lt 0 min || not (t.place == st.place)) (body st)) in
    if nat_lt 0 min then turns else prefer lazy turns (stay st))

-- from `min` to `max` turns of `body`, in a text of this length: each turn either takes one from `min` or moves on, so the fuel never ends
abbrev pub repeats : ℕ → Ends → Bool → ℕ → Option ℕ → Ends
repeats end body lazy min max st = repeat body lazy (min + (end - st.place) + 1) min max st

-- ---- lookaheads (22.2.2.4)

-- the captures of the first success alone, at the place where the lookahead began
abbrev pub ahead : List State → Ends
ahead [] st = []
ahead (t ∷ ts) st = stay (move_to t st.place)

abbrev pub not_ahead : List State → Ends
not_ahead [] st = stay st
not_ahead (t ∷ ts) st = []

-- ---- units and places

abbrev pub differ : Bool → Bool → Bool
differ true b = not b
differ false b = b

module _ (s : List ℕ) where
  -- CharacterSetMatcher (22.2.2.7.1)
  abbrev pub read : (ℕ → Bool) → Ends
  read fits st = if fits_at (slice_get s st.place) fits then stay (move_to st (st.place + 1)) else []

  -- IsWordChar (22.2.2.4.1) of the place before
  abbrev pub word_before : ℕ → Bool
  word_before zero = false
  word_before (suc before) = fits_at (slice_get s before) is_word

  abbrev pub is_boundary : ℕ → Bool
  is_boundary at = differ (word_before at) (fits_at (slice_get s at) is_word)

module _ (f : Flags) (s : List ℕ) where
  -- units that are alike stand in the text from `at` on
  abbrev pub has_at : ℕ → List ℕ → Bool
  has_at at part = starts_with (is_alike f.ignore_case) (drop at s) part

  abbrev pub is_line_start : ℕ → Bool
  is_line_start zero = true
  is_line_start (suc before) = f.multiline && fits_at (slice_get s before) is_line_end

  abbrev pub is_line_stop : ℕ → Bool
  is_line_stop at = at == length s || (f.multiline && fits_at (slice_get s at) is_line_end)

module _ (f : Flags) (s : List ℕ) where
  -- BackreferenceMatcher (22.2.2.7.2): the same units again, and nothing where the group is undefined
  abbrev pub again : Option Span → Ends
  again None st = stay st
  again (Some c) st =
      let part = slice_range s c.0 c.1 in
      if has_at f s st.place part then stay (move_to st (st.place + length part)) else []

  -- every end state, in order of preference
  unfoldable pub succ : Tree → Ends
  -- EmptyMatcher (22.2.2.3.2)
  succ empty st = stay st
  -- CompileAtom (22.2.2.7)
  succ (unit u) st = read s (λ v. is_alike f.ignore_case v u) st
  succ dot st = read s (λ v. not (is_line_end v)) st
  succ (class set) st = read s (in_class f.ignore_case set) st
  succ (group k body) st = flat_map (λ t. stay (capture k st.place t)) (succ body st)
  succ (back k) st = again (captured st.captures k) st
  -- CompileAssertion (22.2.2.4)
  succ line_start st = where_fits (is_line_start f s st.place) st
  succ line_end st = where_fits (is_line_stop f s st.place) st
  succ word st = where_fits (is_boundary s st.place) st
  succ not_word st = where_fits (not (is_boundary s st.place)) st
  succ (look negative body) st = if negative then not_ahead (succ body st) st else ahead (succ body st) st
  -- RepeatMatcher (22.2.2.3.1): the groups inside the body are undefined at each turn's start
  succ (repeated body min max lazy first past) st =
      repeats (length s) (λ t. succ body (clear first past t)) lazy min max st
  -- MatchSequence (22.2.2.3.4)
  succ (seq a b) st = flat_map (succ b) (succ a st)
  -- MatchTwoAlternatives (22.2.2.3.3)
  succ nothing st = []
  succ (alt a b) st = succ a st ++ succ b st
