-- Names: bindings, and where a name is found (ECMA-262, section 9.1).
use Rattle.std.specs.Prelude.{ℕ, zero, suc, Bool, true, false, nat_lt, length, bytes_eq, List, [], ◌∷◌, ◌++◌, Option, Some, None, slice_get, slice_set, if◌then◌else◌}
use Rattle.path_core.specs.declared.path.ErrorName.TheVariants as kind
use Rattle.path_core.specs.declared.path.Why.TheVariants as why
use Rattle.js_meaning.specs.Values.{Text, Value, Scope, Binding, Place}
use Rattle.js_meaning.specs.Running.{Outcome, done, given, refers, intrinsic, leaves, throw_error, binding_limit}
use Rattle.js_meaning.specs.Builtins.{is_builtin, builtin_value}
use Rattle.js_meaning.specs.Objects.{look_up}

-- ---- bindings

abbrev pub inside : Scope → ℕ → Scope
inside scope k = record scope { cell = Some k }

abbrev pub with_binding : Binding → Place → Place
with_binding b st = record st { cells = st.cells ++ b ∷ [] }

-- a new binding (9.1.1.1.2 and 9.1.1.1.3), and the scope inside it
unfoldable pub open_cell : ℕ → Text → Bool → Option Value → Scope → Place → (Scope → Place → Outcome) → Outcome
open_cell site name is_mutable value scope st go =
    if nat_lt (length st.cells) binding_limit
    then go (inside scope (length st.cells))
    (with_binding (record { name = name; is_mutable = is_mutable; outer = scope.cell; value = value }) st)
    else leaves site why.Size st

abbrev pub resolve_in : Option Binding → ℕ → Text → (Option ℕ → Option ℕ) → Option ℕ
resolve_in None k name outwards = None
resolve_in (Some b) k name outwards = if bytes_eq b.name name then Some k else outwards b.outer

-- the binding of a name, from the innermost outwards; a scope has no more bindings than there are
abbrev pub resolve : ℕ → List Binding → Option ℕ → Text → Option ℕ
resolve zero cells cell name = None
resolve (suc left) cells None name = None
resolve (suc left) cells (Some k) name = resolve_in (slice_get cells k) k name (λ cell. resolve left cells cell name)

abbrev pub binding_of : Scope → Text → Place → Option ℕ
binding_of scope name st = resolve (length st.cells) st.cells scope.cell name

abbrev pub write_in : Option Binding → ℕ → Value → Place → Place
write_in None k x st = st
write_in (Some b) k x st = record st { cells = slice_set st.cells k (record b { value = Some x }) }

-- a binding gets a value
abbrev pub write_binding : ℕ → Value → Place → Place
write_binding k x st = write_in (slice_get st.cells k) k x st

abbrev pub write_found : Option ℕ → Value → Place → Place
write_found None x st = st
write_found (Some k) x st = write_binding k x st

-- InitializeBinding (9.1.1.1.4)
unfoldable pub init_name : Text → Scope → Value → Place → Place
init_name name scope x st = write_found (binding_of scope name st) x st

-- ---- where a name is found: in the scopes, among the inputs, among the built-in names, or nowhere (9.4.2, ResolveBinding)

pub data Found : Type 0 where
  bound : ℕ → Found
  supplied : Value → Found
  listed : Found
  nowhere : Found

abbrev pub found_listed : Bool → Found
found_listed true = listed
found_listed false = nowhere

abbrev pub found_input : Option Value → Text → Found
found_input (Some x) name = supplied x
found_input None name = found_listed (is_builtin name)

abbrev pub found_bound : Option ℕ → Text → Place → Found
found_bound (Some k) name st = bound k
found_bound None name st = found_input (look_up name st.run.inputs) name

unfoldable pub find_name : Scope → Text → Place → Found
find_name scope name st = found_bound (binding_of scope name st) name st

-- ---- reading (9.1.1.1.6, GetBindingValue)

abbrev pub read_value : ℕ → Option Value → Place → Outcome
read_value site None st = throw_error site kind.ReferenceError st
read_value site (Some x) st = done st (given x)

abbrev pub read_binding : ℕ → Option Binding → Place → Outcome
read_binding site None st = leaves site why.Name st
read_binding site (Some b) st = read_value site b.value st

-- a built-in name that is a value, or one that may be called
abbrev pub read_builtin : ℕ → Text → Option Value → Place → Outcome
read_builtin site name (Some x) st = done st (given x)
read_builtin site name None st = done st (refers (intrinsic site name))

abbrev pub read_found : ℕ → Text → Found → Place → Outcome
read_found site name (bound k) st = read_binding site (slice_get st.cells k) st
read_found site name (supplied x) st = done st (given x)
read_found site name listed st = read_builtin site name (builtin_value name) st
read_found site name nowhere st = leaves site why.Name st

unfoldable pub read_name : ℕ → Text → Scope → Place → Outcome
read_name site name scope st = read_found site name (find_name scope name st) st

-- ---- writing (9.1.1.1.5, SetMutableBinding): an input may not be assigned, a built-in name leaves the profile

abbrev pub put_mutable : ℕ → ℕ → Value → Bool → Place → Outcome
put_mutable site k x true st = done (write_binding k x st) (given x)
put_mutable site k x false st = throw_error site kind.TypeError st

abbrev pub put_value : ℕ → ℕ → Value → Binding → Option Value → Place → Outcome
put_value site k x b None st = throw_error site kind.ReferenceError st
put_value site k x b (Some old) st = put_mutable site k x b.is_mutable st

abbrev pub put_binding : ℕ → ℕ → Value → Option Binding → Place → Outcome
put_binding site k x None st = leaves site why.Name st
put_binding site k x (Some b) st = put_value site k x b b.value st

abbrev pub put_found : ℕ → Value → Found → Place → Outcome
put_found site x (bound k) st = put_binding site k x (slice_get st.cells k) st
put_found site x (supplied old) st = throw_error site kind.TypeError st
put_found site x listed st = leaves site why.Builtin st
put_found site x nowhere st = leaves site why.Name st

unfoldable pub put_name : ℕ → Text → Scope → Value → Place → Outcome
put_name site name scope x st = put_found site x (find_name scope name st) st
