-- What a machine's frames and choices stand for: the successes still to come, in order.
use Rattle.re_ast.specs.declared.patterns.Flags.{Flags}
use Rattle.std.specs.Prelude.{ℕ, List, map, ◌≡◌, ◌++◌, ◌+◌, ◌≤◌, ◌<◌, length, [], ◌∷◌, Some, slice_get, option_map, if◌then◌else◌, ◌==◌}
use Rattle.re_ast.specs.Tree.{tree_of, seq_all, alt_all}
use Rattle.re_ast.specs.Successes.{State, capture, clear}
use Rattle.re_matcher.specs.Runs.{Run, tick, somes, and_then, looked, unless_at, repeats, runs}
use Rattle.re_matcher.specs.declared.frames.Item.{Item}
use Rattle.re_matcher.specs.declared.frames.Item.TheVariants.{Enter, AllOf, AnyOf, Close, Turn}
use Rattle.re_matcher.specs.declared.frames.Frame.{Frame}
use Rattle.re_matcher.specs.declared.frames.Spot.{Spot}
use Rattle.re_matcher.specs.declared.frames.Progress.{Progress}
use Rattle.re_matcher.specs.declared.frames.Progress.TheVariants.{Going, Ended}
use Rattle.re_matcher.specs.declared.frames.Choice.{Choice}
use Rattle.re_matcher.specs.declared.frames.Choice.TheVariants.{Try, Mark}

abbrev pub state : Spot → State
state spot = record { place = spot.place; captures = spot.groups.items }

-- each frame's next one is below it; the newest frame stands first
abbrev pub IsLinked : List Frame → Type 0
IsLinked [] = Unit {0}
IsLinked (f ∷ older) = (f.next ≤ length older) × IsLinked older

abbrev pub choice_frame : Choice → ℕ
choice_frame (Try frame kept spot) = frame
choice_frame (Mark negative frame kept spot) = frame

abbrev pub choice_kept : Choice → ℕ
choice_kept (Try frame kept spot) = kept
choice_kept (Mark negative frame kept spot) = kept

abbrev pub choice_spot : Choice → Spot
choice_spot (Try frame kept spot) = spot
choice_spot (Mark negative frame kept spot) = spot

-- each choice goes on at one of the frames that it keeps, which are among the first n, and keeps those of the choices below it
abbrev pub IsWithin : ℕ → ℕ → List Choice → Type 0
IsWithin n end [] = Unit {0}
IsWithin n end (c ∷ cs) = (choice_frame c ≤ choice_kept c) × (choice_kept c ≤ n) × ((choice_spot c).place ≤ end) × IsWithin (choice_kept c) end cs

module _ (flags : Flags) (s : List ℕ) where
  abbrev pub item_ends : Item → State → Run
  item_ends (Enter n) st = runs flags s (tree_of n.now) st
  item_ends (AllOf parts) st = runs flags s (seq_all (map tree_of parts.now)) st
  item_ends (AnyOf parts) st = runs flags s (alt_all (map tree_of parts.now)) st
  item_ends (Close k from) st = Some (capture k from st) ∷ []
  item_ends (Turn t) st =
      unless_at t.start st (repeats (length s) (λ u. runs flags s (tree_of t.body.now) (clear t.first t.past u)) t.lazy t.min t.max st)

  -- from the k-th frame on: its item, and then the next; at 0 all is matched
  abbrev pub ends_of : List Frame → ℕ → State → Run
  ends_of [] k st = Some st ∷ []
  ends_of (f ∷ older) k st =
      if k == length older + 1 then tick (and_then (ends_of older f.next) (item_ends f.item st)) else ends_of older k st

  -- the last choice stands first; `found` is what came before them
  abbrev pub waiting : List Frame → List Choice → Run → Run
  waiting fs [] found = found
  waiting fs (Try k kept spot ∷ cs) found = waiting fs cs (found ++ ends_of fs k (state spot))
  waiting fs (Mark negative k kept spot ∷ cs) found = waiting fs cs (and_then (ends_of fs k) (looked negative (state spot) found))

  -- the frames are linked, and each choice goes on at one of them, within the text
  pub record IsSound (fs : List Frame) (cs : List Choice) : Type 0 where
    pub linked : IsLinked fs
    pub within : IsWithin (length fs) (length s) cs

  -- choices were put above the others, which go on with `next` from each of the states
  pub record Pushes (fs fs' : List Frame) (cs cs' : List Choice) (next : ℕ) (ends : Run) : Type 0 where
    pub same : (found : Run) → waiting fs' cs' found ≡ waiting fs cs (found ++ and_then (ends_of fs next) ends)
    pub kept : (k : ℕ) (st : State) → k ≤ length fs → ends_of fs' k st ≡ ends_of fs k st
    pub grown : length fs ≤ length fs'
    pub sound : IsSound fs' cs'

  -- what is waiting is what `next` makes of the states, and then what was waiting
  pub record Becomes (fs fs' : List Frame) (cs cs' : List Choice) (next : ℕ) (ends : Run) : Type 0 where
    pub same : waiting fs' cs' [] ≡ waiting fs cs (and_then (ends_of fs next) ends)
    pub sound : IsSound fs' cs'

  -- frames that nothing waits for were cut off
  pub record Cuts (fs fs' : List Frame) (cs cs' : List Choice) : Type 0 where
    pub rest : cs ≡ cs'
    pub same : (found : Run) → waiting fs' cs' found ≡ waiting fs cs found
    pub sound : IsSound fs' cs'

-- one step less is waiting and the first end state is the same, or it is told
abbrev pub Tells : Progress → Run → Run → Type 0
Tells Going before now = (slice_get (somes now) 0 ≡ slice_get (somes before) 0) × (length now < length before)
Tells (Ended found) before now = option_map state found ≡ slice_get (somes before) 0
