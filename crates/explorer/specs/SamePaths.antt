-- Which paths are the same, as a test: a path is written as lists of numbers, from which it can be read back.
use Rattle.std.specs.Prelude.{◌≡◌, ℕ, zero, suc, Bool, true, List, [], ◌∷◌, map, get_or, bytes_eq}
use Rattle.std.specs.Bool.{Decides}
use Rattle.std.specs.Cmp.{IsEquivalence, on_equiv}
use Rattle.std.specs.Cmp.Lexicographic.{pointwise, pointwise_decides, bytes_decides, lists_equiv, nat_list_eq_equiv}
use Rattle.std.proofs.Common.{refl, sym, ap, ◌∙◌}
use Rattle.path_core.specs.declared.path.PickKind.{PickKind}
use Rattle.path_core.specs.declared.path.PickKind.TheVariants as kind
use Rattle.path_core.specs.declared.path.ErrorName.TheVariants as error
use Rattle.path_core.specs.declared.path.Thrown.{Thrown}
use Rattle.path_core.specs.declared.path.Thrown.TheVariants as thrown
use Rattle.path_core.specs.declared.path.Why.{Why}
use Rattle.path_core.specs.declared.path.Why.TheVariants as why
use Rattle.path_core.specs.declared.path.Budget.{Budget}
use Rattle.path_core.specs.declared.path.Budget.TheVariants as budget
use Rattle.path_core.specs.declared.path.Event.{Event}
use Rattle.path_core.specs.declared.path.Event.TheVariants as event
use Rattle.path_core.specs.declared.path.End.{End}
use Rattle.path_core.specs.declared.path.End.TheVariants as end
use Rattle.path_core.specs.declared.path.Path.{Path}

-- ---- the numbers of what has no parts

abbrev kinds : List PickKind
kinds = kind.Branch ∷ kind.Place ∷ kind.Number ∷ kind.Match ∷ kind.Group ∷ kind.Found ∷ kind.Key ∷ kind.Clamp ∷ []

abbrev pub kind_number : PickKind → ℕ
kind_number kind.Branch = 0
kind_number kind.Place = 1
kind_number kind.Number = 2
kind_number kind.Match = 3
kind_number kind.Group = 4
kind_number kind.Found = 5
kind_number kind.Key = 6
kind_number kind.Clamp = 7

abbrev throws : List Thrown
throws = thrown.Value ∷ thrown.Named error.Error ∷ thrown.Named error.TypeError ∷ thrown.Named error.RangeError ∷ thrown.Named error.ReferenceError ∷ []

abbrev pub thrown_number : Thrown → ℕ
thrown_number thrown.Value = 0
thrown_number (thrown.Named error.Error) = 1
thrown_number (thrown.Named error.TypeError) = 2
thrown_number (thrown.Named error.RangeError) = 3
thrown_number (thrown.Named error.ReferenceError) = 4

abbrev reasons : List Why
reasons = why.Range ∷ why.Divide ∷ why.Convert ∷ why.Inherited ∷ why.Message ∷ why.Unicode ∷ why.Template ∷ why.Size ∷ why.Key ∷ why.Set ∷ why.Builtin ∷ why.Name ∷ why.Iterate ∷ why.New ∷ []

abbrev pub reason_number : Why → ℕ
reason_number why.Range = 0
reason_number why.Divide = 1
reason_number why.Convert = 2
reason_number why.Inherited = 3
reason_number why.Message = 4
reason_number why.Unicode = 5
reason_number why.Template = 6
reason_number why.Size = 7
reason_number why.Key = 8
reason_number why.Set = 9
reason_number why.Builtin = 10
reason_number why.Name = 11
reason_number why.Iterate = 12
reason_number why.New = 13

abbrev budgets : List Budget
budgets = budget.Turns ∷ budget.Events ∷ budget.Nodes ∷ []

abbrev pub budget_number : Budget → ℕ
budget_number budget.Turns = 0
budget_number budget.Events = 1
budget_number budget.Nodes = 2

-- ---- events, ends and paths, written and read back

abbrev pub event_code : Event → List ℕ
event_code (event.Pick site k out ways) = 0 ∷ site ∷ kind_number k ∷ out ∷ ways ∷ []
event_code (event.Value site text) = 1 ∷ site ∷ text

abbrev pub end_code : End → List ℕ
end_code end.Done = []
end_code (end.Threw site what) = site ∷ thrown_number what ∷ []
end_code (end.Cut site what) = site ∷ budget_number what ∷ 0 ∷ []
end_code (end.Left site w turns ended) = site ∷ reason_number w ∷ turns ∷ ended ∷ []

-- the end, and then each event
abbrev pub path_code : Path → List (List ℕ)
path_code path = end_code path.end ∷ map event_code path.events

-- both are written alike
abbrev pub same_path : Path → Path → Bool
same_path a b = pointwise bytes_eq (path_code a) (path_code b)

abbrev event_at : List ℕ → Event
event_at (zero ∷ site ∷ n ∷ out ∷ ways ∷ []) = event.Pick site (get_or kinds n kind.Branch) out ways
event_at (suc n ∷ site ∷ text) = event.Value site text
event_at _ = event.Value 0 []

abbrev end_at : List ℕ → End
end_at (site ∷ n ∷ []) = end.Threw site (get_or throws n thrown.Value)
end_at (site ∷ n ∷ m ∷ []) = end.Cut site (get_or budgets n budget.Turns)
end_at (site ∷ n ∷ turns ∷ ended ∷ []) = end.Left site (get_or reasons n why.Range) turns ended
end_at _ = end.Done

abbrev path_at : List (List ℕ) → Path
path_at (e ∷ es) = record { events = map event_at es; end = end_at e }
path_at [] = record { events = []; end = end.Done }

kind_back : (k : PickKind) → get_or kinds (kind_number k) kind.Branch ≡ k
kind_back kind.Branch = refl
kind_back kind.Place = refl
kind_back kind.Number = refl
kind_back kind.Match = refl
kind_back kind.Group = refl
kind_back kind.Found = refl
kind_back kind.Key = refl
kind_back kind.Clamp = refl

thrown_back : (t : Thrown) → get_or throws (thrown_number t) thrown.Value ≡ t
thrown_back thrown.Value = refl
thrown_back (thrown.Named error.Error) = refl
thrown_back (thrown.Named error.TypeError) = refl
thrown_back (thrown.Named error.RangeError) = refl
thrown_back (thrown.Named error.ReferenceError) = refl

reason_back : (w : Why) → get_or reasons (reason_number w) why.Range ≡ w
reason_back why.Range = refl
reason_back why.Divide = refl
reason_back why.Convert = refl
reason_back why.Inherited = refl
reason_back why.Message = refl
reason_back why.Unicode = refl
reason_back why.Template = refl
reason_back why.Size = refl
reason_back why.Key = refl
reason_back why.Set = refl
reason_back why.Builtin = refl
reason_back why.Name = refl
reason_back why.Iterate = refl
reason_back why.New = refl

budget_back : (b : Budget) → get_or budgets (budget_number b) budget.Turns ≡ b
budget_back budget.Turns = refl
budget_back budget.Events = refl
budget_back budget.Nodes = refl

event_back : (e : Event) → event_at (event_code e) ≡ e
event_back (event.Pick site k out ways) = ap (λ (x : PickKind). event.Pick site x out ways) (kind_back k)
event_back (event.Value site text) = refl

end_back : (e : End) → end_at (end_code e) ≡ e
end_back end.Done = refl
end_back (end.Threw site what) = ap (λ (t : Thrown). end.Threw site t) (thrown_back what)
end_back (end.Cut site what) = ap (λ (b : Budget). end.Cut site b) (budget_back what)
end_back (end.Left site w turns ended) = ap (λ (x : Why). end.Left site x turns ended) (reason_back w)

events_back : (es : List Event) → map event_at (map event_code es) ≡ es
events_back [] = refl
events_back (e ∷ es) = λ i. event_back e i ∷ events_back es i

path_back : (p : Path) → path_at (path_code p) ≡ p
path_back p = λ i. record { events = events_back p.events i; end = end_back p.end i }

-- ---- the test is true exactly of equal paths

pub path_decides : (a b : Path) → Decides (same_path a b) (a ≡ b)
path_decides a b =
    let codes = pointwise_decides bytes_decides (path_code a) (path_code b) in
    (λ same. sym (path_back a) ∙ ap path_at (codes.0 same) ∙ path_back b, λ equal. codes.1 (ap path_code equal))

pub path_equiv : IsEquivalence same_path
path_equiv = on_equiv path_code (lists_equiv nat_list_eq_equiv)
