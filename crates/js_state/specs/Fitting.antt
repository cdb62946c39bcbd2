-- Each shadow of a state fits its table: one family of predicates, over any predicate of shadows.
use Rattle.std.specs.Prelude.{◌≡◌, ◌≤◌, ◌<◌, ℕ, Bool, List, [], ◌∷◌, Option, Some, None, length, Result, Ok, Err, true, false}
use Rattle.js_heap.specs.declared.class.Class.{Class as Kind}
use Rattle.js_heap.specs.declared.class.Class.TheVariants as kind
use Rattle.js_heap.specs.Contents.{Object as Parts, Heap}
use Rattle.term_table.specs.declared.term.Term.{Term}
use Rattle.term_table.specs.declared.shadow.Shadow.{Shadow}
use Rattle.term_table.specs.Fitting.{IsValue, Fits}
use Rattle.js_meaning.specs.Values.{Text}
use Rattle.js_values.specs.Numbers.{is_safe}
use Rattle.path_core.specs.declared.bounds.Declared.{Declared}
use Rattle.path_core.specs.declared.path.InputValue.{InputValue}
use Rattle.path_core.specs.declared.path.InputValue.TheVariants as input
use Rattle.js_state.specs.declared.held.Bound.{Bound}
use Rattle.js_state.specs.declared.held.Supplied.{Supplied}
use Rattle.js_state.specs.declared.completion.Reference.{Reference}
use Rattle.js_state.specs.declared.completion.Reference.TheVariants as ref
use Rattle.js_state.specs.declared.completion.Completion.{Completion}
use Rattle.js_state.specs.declared.completion.Completion.TheVariants as c

abbrev pub Shadows : Type 1
Shadows = Shadow → Type 0

abbrev pub AllOf : {A : Type 0} → (A → Type 0) → List A → Type 0
AllOf P [] = Unit {0}
AllOf P (x ∷ xs) = P x × AllOf P xs

abbrev pub InSome : {A : Type 0} → (A → Type 0) → Option A → Type 0
InSome P None = Unit {0}
InSome P (Some x) = P x

abbrev pub InProperty : Shadows → Text × Shadow → Type 0
InProperty P p = P p.1

abbrev pub InReference : Shadows → Reference → Type 0
InReference P (ref.Callee value this) = P value
InReference P (ref.Intrinsic site name) = Unit {0}
InReference P (ref.Static site key) = Unit {0}
InReference P (ref.Method site base m) = P base

abbrev pub InCompletion : Shadows → Completion → Type 0
InCompletion P (c.Value x) = P x
InCompletion P (c.Refers r) = InReference P r
InCompletion P c.Normal = Unit {0}
InCompletion P c.Break = Unit {0}
InCompletion P c.Continue = Unit {0}
InCompletion P (c.Return x) = P x
InCompletion P (c.Throw site x) = P x
InCompletion P (c.Stop end) = Unit {0}

-- a value that was found, or the completion in its place
abbrev pub InResult : {A : Type 0} → (A → Type 0) → Shadows → Result A Completion → Type 0
InResult Q P (Ok x) = Q x
InResult Q P (Err completion) = InCompletion P completion

-- ---- what every state keeps

-- a function's code is there
abbrev pub CodeBelow : ℕ → Kind → Type 0
CodeBelow n (kind.Function code scope) = code < n
CodeBelow n _ = Unit {0}

pub record InObject (P : Shadows) (codes : ℕ) (o : Parts Shadow) : Type 0 where
  pub code : CodeBelow codes o.class
  pub few : length o.items ≤ 65536
  pub properties : AllOf (InProperty P) o.properties
  pub items : AllOf P o.items

-- an input's value is one of the language, and so far none has a number
pub record IsSupplied (s : Supplied) : Type 0 where
  pub value : IsValue s.value
  pub number : s.number ≡ None

pub record IsSound (names : List Bound) (codes : ℕ) (heap : Heap Shadow) (table : List Term) (supplied : List Supplied) : Type 0 where
  pub together : length names ≡ length heap.cells
  pub few : codes ≤ length heap.objects
  pub cells : AllOf (InSome (Fits table)) heap.cells
  pub objects : AllOf (InObject (Fits table) codes) heap.objects
  pub inputs : AllOf IsSupplied supplied

-- ---- kinds of completions

-- the run has stopped
abbrev pub IsStop : Completion → Type 0
IsStop (c.Stop end) = Unit {0}
IsStop _ = ⊥

abbrev pub ErrStops : {A : Type 0} → Result A Completion → Type 0
ErrStops (Ok x) = Unit {0}
ErrStops (Err completion) = IsStop completion

-- a value or a reference
abbrev pub is_result : Completion → Bool
is_result (c.Value x) = true
is_result (c.Refers r) = true
is_result _ = false

-- thrown, or stopped
abbrev pub IsAbrupt : Completion → Type 0
IsAbrupt (c.Throw site x) = Unit {0}
IsAbrupt (c.Stop end) = Unit {0}
IsAbrupt _ = ⊥

-- a value, or an end of what was begun
abbrev pub IsPlayed : Completion → Type 0
IsPlayed (c.Value x) = Unit {0}
IsPlayed (c.Throw site x) = Unit {0}
IsPlayed (c.Stop end) = Unit {0}
IsPlayed _ = ⊥

-- a value or a reference, or an end of what was begun
abbrev pub IsReached : Completion → Type 0
IsReached (c.Value x) = Unit {0}
IsReached (c.Refers r) = Unit {0}
IsReached (c.Throw site x) = Unit {0}
IsReached (c.Stop end) = Unit {0}
IsReached _ = ⊥

-- what was found is this
abbrev pub IsOr : {A : Type 0} → A → Result A Completion → Type 0
IsOr x (Ok y) = y ≡ x
IsOr x (Err completion) = Unit {0}

-- ---- inputs

abbrev pub IsInputValue : InputValue → Type 0
IsInputValue (input.Int n) = is_safe n ≡ true
IsInputValue (input.Text t) = length t ≤ 65536

-- a value of the language for each declared name
abbrev pub AreSupplied : List Declared → List InputValue → Type 0
AreSupplied [] [] = Unit {0}
AreSupplied [] (v ∷ vs) = ⊥
AreSupplied (d ∷ ds) [] = ⊥
AreSupplied (d ∷ ds) (v ∷ vs) = IsInputValue v × AreSupplied ds vs
