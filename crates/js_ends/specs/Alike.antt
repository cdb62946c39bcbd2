-- Two inputs of one script: as long as their paths have the same events, they pass the same guards, until one of them ends at
-- one that the other passes.
use Rattle.std.specs.Prelude.{◌≡◌, ◌⊎◌, List, [], ◌∷◌, ◌++◌, Option, Some, None}
use Rattle.path_core.specs.declared.path.End.{End}
use Rattle.path_core.specs.declared.path.Event.{Event}
use Rattle.js_meaning.specs.Values.{Place}
use Rattle.js_meaning.specs.Running.{Item, passed, made, Completion, Outcome}
use Rattle.js_meaning.specs.Path.{end_of}
use Rattle.js_meaning.specs.Apart.{Silent}
use Rattle.term_table.specs.declared.term.TermId.{TermId}
use Rattle.term_table.specs.declared.moves.Move.{Move}
use Rattle.term_table.specs.Views.{View, holds}
use Rattle.term_table.specs.Walking.{Shown, Failing, Walk}
use Rattle.js_ends.specs.Ends.{IsAgain}

-- ---- paths with their guards, and the moves of a run that lead along one

-- what is shown on the way, and the end
abbrev pub Guarded : Type 0
Guarded = Shown End

abbrev pub guarded_path : Outcome → Guarded
guarded_path r = (r.0, end_of r.1.0 r.1.1)

abbrev pub EndsPath : End → End → Type 0
EndsPath exit end = end ≡ exit

-- where a run's moves lead: to its end, or through the guard that failed there where that holds
abbrev pub Reached : View → Option TermId → End → Guarded → Type 0
Reached view None end w = w ≡ ([], end)
Reached view (Some t) end w = Failing EndsPath (holds view t) end w

-- the moves of a run, with the guard that failed at its end and that end, lead along the path that a view has
abbrev pub Leads : View → List Move → Option TermId → End → Guarded → Type 0
Leads view moves failed end w = Walk EndsPath view moves w (λ rest. Reached view failed end rest)

-- ---- the same, of outcomes

abbrev pub EndsOutcome : End → Place × Completion → Type 0
EndsOutcome exit p = end_of p.0 p.1 ≡ exit

abbrev pub ReachedOutcome : View → Option TermId → End → Outcome → Type 0
ReachedOutcome view None end r = (r.0 ≡ []) × EndsOutcome end r.1
ReachedOutcome view (Some t) end r = Failing EndsOutcome (holds view t) end r

abbrev pub LeadsOutcome : View → List Move → Option TermId → End → Outcome → Type 0
LeadsOutcome view moves failed end r = Walk EndsOutcome view moves r (λ rest. ReachedOutcome view failed end rest)

-- ---- the law

-- what stands right behind these events, which are the first ones among the items
abbrev pub IsBehind : List Event → List Item → List Item → Type 0
IsBehind [] items rest = items ≡ rest
IsBehind (e ∷ events) [] rest = ⊥
IsBehind (e ∷ events) (passed x ∷ items) rest = IsBehind (e ∷ events) items rest
IsBehind (e ∷ events) (made f ∷ items) rest = (f ≡ e) × IsBehind events items rest

-- the exits of the guards up to the next event, or up to the end with that put last
abbrev pub exits : List Item → End → List End
exits [] end = end ∷ []
exits (passed x ∷ items) end = x ∷ exits items end
exits (made e ∷ items) end = []

abbrev pub Begins : List End → List End → Type 0
Begins xs ys = (more : List End) × (xs ++ more ≡ ys)

-- wherever both have made the same events, the exits up to the next event or the end of the one begin with those of the other
abbrev pub AreAlike : Guarded → Guarded → Type 0
AreAlike w u =
    (events : List Event) (xs ys : List Item) → IsBehind events w.0 xs → IsBehind events u.0 ys →
    Begins (exits xs w.1) (exits ys u.1) ⊎ Begins (exits ys u.1) (exits xs w.1)

-- ---- what no guard stopped, as the end for want of room

-- wherever both have made the same events, and the one makes none behind them: the other doesn't either, and its exits from
-- there to its end are the first ones of the one's
abbrev pub EndsAsWell : Guarded → Guarded → Type 0
EndsAsWell w u =
    (events : List Event) (xs ys : List Item) → IsBehind events w.0 xs → IsBehind events u.0 ys → Silent xs →
    Silent ys × Begins (exits ys u.1) (exits xs w.1)

-- a guard with this exit is passed before the next event
abbrev pub IsPassed : End → List Item → Type 0
IsPassed x [] = ⊥
IsPassed x (passed y ∷ items) = (y ≡ x) ⊎ IsPassed x items
IsPassed x (made e ∷ items) = ⊥

-- wherever both have made the same events, and the one makes none behind them, the other passes no guard there whose exit is
-- the one's end
abbrev pub IsNeverPassed : Guarded → Guarded → Type 0
IsNeverPassed w u =
    (events : List Event) (xs ys : List Item) → IsBehind events w.0 xs → IsBehind events u.0 ys → Silent xs →
    IsPassed w.1 ys → ⊥

-- ---- what a run's end tells of an input that goes on where the run's guard failed

-- a guard with this exit is passed behind the last event
abbrev pub IsSince : End → List Item → Type 0
IsSince x [] = ⊥
IsSince x (passed y ∷ items) = ((y ≡ x) × Silent items) ⊎ IsSince x items
IsSince x (made e ∷ items) = IsSince x items

-- it doesn't end, before its next event, with the run's end, nor with the exit of a guard behind the run's last event
abbrev pub Tells : List Item → End → List Item → End → Type 0
Tells before exit behind end = (x : End) → IsSince x before ⊎ (exit ≡ x) → IsAgain x behind end → ⊥
