-- The table of built-ins: the names that the profile knows, what each of them is, and what a call of it does. So far it
-- holds `undefined` and `NaN` alone; every other use of a name or a method of the table leaves the profile.
use Rattle.std.specs.Prelude.{ℕ, Bool, ◌&&◌, ◌||◌, bytes_eq, List, [], ◌∷◌, Option, Some, None, codes, if◌then◌else◌}
use Rattle.std.specs.List.{list_any}
use Rattle.path_core.specs.declared.path.Why.TheVariants as why
use Rattle.js_meaning.specs.Values.{Text, Value, undefined, nan, Place}
use Rattle.js_meaning.specs.Running.{Reference, Outcome, leaves}

abbrev pub among : Text → List Text → Bool
among name names = list_any (bytes_eq name) names

-- ---- the names

-- the constructors of errors (20.5)
abbrev pub error_names : List Text
error_names = codes "Error" ∷ codes "TypeError" ∷ codes "RangeError" ∷ codes "ReferenceError" ∷ []

abbrev pub builtin_names : List Text
builtin_names =
    codes "undefined" ∷ codes "NaN" ∷ codes "parseInt" ∷ codes "String" ∷ codes "Object" ∷ codes "Array" ∷ error_names

abbrev pub is_builtin : Text → Bool
is_builtin name = among name builtin_names

-- the listed properties of built-in names
abbrev pub is_static : Text → Text → Bool
is_static name key =
    (bytes_eq name (codes "String") && bytes_eq key (codes "fromCharCode"))
    || (bytes_eq name (codes "Object") && bytes_eq key (codes "keys"))
    || (bytes_eq name (codes "Array") && bytes_eq key (codes "isArray"))

-- the methods of strings (22.1.3)
abbrev pub string_methods : List Text
string_methods =
    codes "charAt" ∷ codes "charCodeAt" ∷ codes "indexOf" ∷ codes "includes" ∷ codes "startsWith" ∷ codes "endsWith"
    ∷ codes "slice" ∷ codes "substring" ∷ codes "toLowerCase" ∷ codes "toUpperCase" ∷ codes "trim" ∷ codes "concat"
    ∷ codes "split" ∷ codes "match" ∷ codes "search" ∷ codes "replace" ∷ []

-- the methods of arrays (23.1.3)
abbrev pub array_methods : List Text
array_methods =
    codes "push" ∷ codes "pop" ∷ codes "shift" ∷ codes "slice" ∷ codes "concat" ∷ codes "indexOf" ∷ codes "includes"
    ∷ codes "join" ∷ codes "map" ∷ codes "filter" ∷ codes "forEach" ∷ codes "some" ∷ codes "every" ∷ codes "reduce" ∷ []

-- the methods of patterns (22.2.6)
abbrev pub pattern_methods : List Text
pattern_methods = codes "exec" ∷ codes "test" ∷ []

-- what built-in names have as methods (22.1.2, 20.1.2, 23.1.2)
abbrev pub static_methods : List Text
static_methods = codes "fromCharCode" ∷ codes "keys" ∷ codes "isArray" ∷ []

-- a method of the table, of whichever base
abbrev pub is_method : Text → Bool
is_method name =
    among name string_methods || (among name array_methods || (among name pattern_methods || among name static_methods))

-- ---- the rows

-- the names that are values (19.1)
abbrev pub builtin_value : Text → Option Value
builtin_value name =
    if bytes_eq name (codes "undefined") then Some undefined
    else (if bytes_eq name (codes "NaN") then Some nan
    else None)

-- a call of a script function: its site, the function, its `this` and its arguments
abbrev pub Calls : Type 0
Calls = ℕ → Value → Value → List Value → Place → Outcome

-- a call of a built-in, behind its arguments; functions that it is given it calls by the first argument
unfoldable pub call_builtin : Calls → ℕ → Reference → List Value → Place → Outcome
call_builtin calls site r arguments st = leaves site why.Builtin st

-- `new` of the constructor of an error, behind its arguments
unfoldable pub construct : ℕ → Text → List Value → Place → Outcome
construct site name arguments st = leaves site why.Builtin st
