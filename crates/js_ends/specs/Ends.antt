-- An end tells which guard failed: between two events of a path no exit is named twice.
use Rattle.std.specs.Prelude.{◌≡◌, ◌⊎◌, List, [], ◌∷◌}
use Rattle.path_core.specs.declared.path.End.{End}
use Rattle.path_core.specs.declared.path.InputValue.{InputValue}
use Rattle.path_core.specs.declared.bounds.Bounds.{Bounds}
use Rattle.js_ast.specs.declared.statement.Script.{Script}
use Rattle.js_meaning.specs.Values.{Answers}
use Rattle.js_meaning.specs.Running.{Item, passed, made, Outcome}
use Rattle.js_meaning.specs.Path.{run_of, end_of}

-- an exit is passed among these items before their next event, or is the end there
abbrev pub IsAgain : End → List Item → End → Type 0
IsAgain x [] end = x ≡ end
IsAgain x (passed y ∷ items) end = (y ≡ x) ⊎ IsAgain x items end
IsAgain x (made e ∷ items) end = ⊥

-- between two events no exit is passed twice, and none is the end that was passed since the last event
abbrev pub AreApart : List Item → End → Type 0
AreApart [] end = Unit {0}
AreApart (passed x ∷ items) end = (IsAgain x items end → ⊥) × AreApart items end
AreApart (made e ∷ items) end = AreApart items end

abbrev pub EndsApart : Outcome → Type 0
EndsApart r = AreApart r.0 (end_of r.1.0 r.1.1)

abbrev pub RunEndsApart : Script → Bounds → List InputValue → Answers → Type 0
RunEndsApart script bounds values answers = EndsApart (run_of script bounds values answers)
