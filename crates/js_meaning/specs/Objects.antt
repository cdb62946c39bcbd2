-- Objects: their keys, and reading and writing of properties. What the path decides is an end without an item.
use Rattle.std.specs.Prelude.{ℕ, ◌+◌, ◌-◌, ◌*◌, ◌==◌, pos, nat_le, nat_lt, Bool, true, false, not, ◌&&◌, ◌||◌, bytes_eq, length, List, [], ◌∷◌, ◌++◌, map, filter, filter_map, Option, Some, None, is_some, unwrap_or, Result, Ok, Err, slice_index_or, slice_set, decimal, codes, if◌then◌else◌}
use Rattle.path_core.specs.declared.path.ErrorName.{ErrorName}
use Rattle.path_core.specs.declared.path.ErrorName.TheVariants as kind
use Rattle.path_core.specs.declared.path.Why.TheVariants as why
use Rattle.js_meaning.specs.Values.{Text, Value, undefined, null, truth, int, nan, text, object, Code, Class, plain, array, matched, function, regexp, error, Object, Place}
use Rattle.js_meaning.specs.Running.{Reference, callee, intrinsic, static, method, Answer, comes_to, raises, ends, Row, Outcome, leaves, leaving, ending, entry_limit, answer, play}
use Rattle.js_meaning.specs.Builtins.{among, is_static, is_method, array_methods, pattern_methods}

-- ---- keys

abbrev pub look_up : Text → List (Text × Value) → Option Value
look_up key [] = None
look_up key (p ∷ ps) = if bytes_eq key p.0 then Some p.1 else look_up key ps

-- a key that is there keeps its place and takes the value, and a new one goes last
abbrev pub put : List (Text × Value) → Text → Value → List (Text × Value)
put [] key x = (key, x) ∷ []
put (p ∷ ps) key x = if bytes_eq key p.0 then (p.0, x) ∷ ps else p ∷ put ps key x

-- ---- objects

abbrev pub bare : Object
bare = record { class = plain; properties = []; items = [] }

abbrev pub object_at : List Object → ℕ → Object
object_at objects o = slice_index_or objects o bare

abbrev pub code_in : Class → Option Code
code_in (function code) = Some code
code_in _ = None

-- the code of a value that is a function
abbrev pub code_of : Value → List Object → Option Code
code_of (object o) objects = code_in (object_at objects o).class
code_of _ objects = None

-- IsCallable (7.2.3)
abbrev pub is_callable : Value → List Object → Bool
is_callable x objects = is_some (code_of x objects)

-- an array, or a match result (7.2.2, IsArray)
abbrev pub is_array : Class → Bool
is_array array = true
is_array matched = true
is_array _ = false

-- ---- reading (7.3.3, GetV)

-- the names that a plain object inherits (20.1.3, B.2.2)
abbrev pub inherited_names : List Text
inherited_names =
    codes "constructor" ∷ codes "hasOwnProperty" ∷ codes "isPrototypeOf" ∷ codes "propertyIsEnumerable"
    ∷ codes "toLocaleString" ∷ codes "toString" ∷ codes "valueOf" ∷ codes "__proto__" ∷ codes "__defineGetter__"
    ∷ codes "__defineSetter__" ∷ codes "__lookupGetter__" ∷ codes "__lookupSetter__" ∷ []

-- a value that was read from a property: a call of it has the base as its `this`. The length of a string is no function,
-- so there it makes no difference
abbrev pub holds : Value → Value → Row
holds base x = ([], comes_to (callee x base))

-- no own key: a method of the table, or a name that would be inherited
abbrev pub other : ℕ → Value → Text → Row
other site base key = if is_method key then ([], comes_to (method site base key)) else ending site why.Inherited

abbrev pub own_or_other : ℕ → Value → Text → Option Value → Row
own_or_other site base key None = other site base key
own_or_other site base key (Some x) = holds base x

-- an own key of a plain object, else undefined
abbrev pub own_or_undefined : ℕ → Value → Text → Option Value → Row
own_or_undefined site base key (Some x) = holds base x
own_or_undefined site base key None =
    if among key inherited_names then ending site why.Inherited else holds base undefined

-- the name of an error (20.5.3.3)
abbrev pub error_text : ErrorName → Text
error_text kind.Error = codes "Error"
error_text kind.TypeError = codes "TypeError"
error_text kind.RangeError = codes "RangeError"
error_text kind.ReferenceError = codes "ReferenceError"

-- the message of an error (20.5.3.2): what the engine says in its own is no matter of the standard
abbrev pub message_row : ℕ → Value → Bool → Option Value → Row
message_row site base true m = ending site why.Message
message_row site base false m = holds base (unwrap_or m (text []))

abbrev pub error_row : ℕ → Value → ErrorName → Bool → Text → List (Text × Value) → Row
error_row site base name engine key ps =
    if bytes_eq key (codes "name") then holds base (text (error_text name))
    else (if bytes_eq key (codes "message") then message_row site base engine (look_up key ps)
    else other site base key)

abbrev pub length_or : List Value → Text → Option Value → Option Value
length_or items key own = if bytes_eq key (codes "length") then Some (int (pos (length items))) else own

-- by the class of the object
abbrev pub get_from : ℕ → Value → Text → Class → List (Text × Value) → List Value → Row
get_from site base key plain ps items = own_or_undefined site base key (look_up key ps)
get_from site base key array ps items = own_or_other site base key (length_or items key None)
get_from site base key matched ps items = own_or_other site base key (length_or items key (look_up key ps))
get_from site base key (function code) ps items = other site base key
get_from site base key (regexp at p) ps items = own_or_other site base key (look_up key ps)
get_from site base key (error name engine) ps items = error_row site base name engine key ps

abbrev pub get_own : ℕ → ℕ → Text → Object → Row
get_own site o key ob = get_from site (object o) key ob.class ob.properties ob.items

-- a property of a value by a static key
unfoldable pub get_row : ℕ → Value → Text → List Object → Row
get_row site undefined key objects = ([], raises site kind.TypeError)
get_row site null key objects = ([], raises site kind.TypeError)
get_row site (truth b) key objects = other site (truth b) key
get_row site (int n) key objects = other site (int n) key
get_row site nan key objects = other site nan key
get_row site (text t) key objects =
    if bytes_eq key (codes "length") then holds undefined (int (pos (length t))) else other site (text t) key
get_row site (object o) key objects = get_own site o key (object_at objects o)

-- behind `.`, of what stands before it; of a built-in name only a listed property. A method that isn't called has left the
-- profile before
abbrev pub property_row : ℕ → Reference → Text → List Object → Row
property_row site (callee x this) key objects = get_row site x key objects
property_row site (intrinsic at name) key objects =
    if is_static name key then ([], comes_to (static site name key)) else ending site why.Builtin
property_row site _ key objects = ending site why.Builtin

-- ---- properties in brackets: they leave the profile so far, but for the methods and listed properties of the table

-- whether a method may be a property of the value
abbrev pub has_methods : Class → Bool
has_methods plain = false
has_methods _ = true

abbrev pub may_have_methods : Value → List Object → Bool
may_have_methods undefined objects = false
may_have_methods null objects = false
may_have_methods (object o) objects = has_methods (object_at objects o).class
may_have_methods _ objects = true

-- a key that is one text literal
abbrev pub static_key : Bool → Value → Option Text
static_key true (text t) = Some t
static_key _ _ = None

abbrev pub bracket_method : ℕ → Value → Option Text → List Object → Row
bracket_method site x None objects = ending site why.Key
bracket_method site x (Some key) objects =
    if is_method key && may_have_methods x objects then ([], comes_to (method site x key)) else ending site why.Key

abbrev pub bracket_static : ℕ → Text → Option Text → Row
bracket_static site name None = ending site why.Builtin
bracket_static site name (Some key) =
    if is_static name key then ([], comes_to (static site name key)) else ending site why.Builtin

-- behind `[`, of what stands before it, and of the key's value; the flag tells a literal alone
unfoldable pub bracket_row : ℕ → Bool → Reference → Value → List Object → Row
bracket_row site is_static (callee x this) key objects = bracket_method site x (static_key is_static key) objects
bracket_row site is_static (intrinsic at name) key objects = bracket_static site name (static_key is_static key)
bracket_row site is_static _ key objects = ending site why.Builtin

abbrev pub get_bracket : ℕ → Bool → Reference → Value → Place → Outcome
get_bracket site is_static r key st = play (bracket_row site is_static r key st.objects) st

-- a property in brackets is written: of a value, by the key's value
unfoldable pub set_bracket : ℕ → Bool → Value → Value → Value → Place → Outcome
set_bracket site is_static base key x st = leaves site why.Key st

-- ---- writing (7.3.4, Set)

-- the objects then, or what else the write comes to
abbrev pub Written : Type 0
Written = Result (List Object) Answer

abbrev pub set_leaves : ℕ → Written
set_leaves site = Err (ends (leaving site why.Set))

abbrev pub inherits : ℕ → Written
inherits site = Err (ends (leaving site why.Inherited))

abbrev pub no_room : ℕ → Written
no_room site = Err (ends (leaving site why.Size))

-- a property of the object with this number gets the value
abbrev pub with_property : List Object → ℕ → Text → Value → List Object
with_property objects o key x =
    slice_set objects o (record (object_at objects o) { properties = put (object_at objects o).properties key x })

-- CreateDataProperty (7.3.5): a key that is there, or a new one where there is room
abbrev pub add_property : ℕ → List Object → ℕ → Text → Value → Written
add_property site objects o key x =
    if is_some (look_up key (object_at objects o).properties)
    || nat_lt (length (object_at objects o).properties) entry_limit
    then Ok (with_property objects o key x)
    else no_room site

abbrev pub set_plain : ℕ → List Object → ℕ → Text → Value → Written
set_plain site objects o key x =
    if bytes_eq key (codes "__proto__") then inherits site else add_property site objects o key x

abbrev pub set_named : ℕ → Text → List Text → Written
set_named site key names = if among key names then set_leaves site else inherits site

abbrev pub set_pattern : ℕ → List Object → ℕ → Text → Value → Written
set_pattern site objects o key x =
    if bytes_eq key (codes "lastIndex") then Ok (with_property objects o key x) else set_named site key pattern_methods

abbrev pub set_in : ℕ → List Object → ℕ → Text → Value → Class → Written
set_in site objects o key x plain = set_plain site objects o key x
set_in site objects o key x array = set_named site key (codes "length" ∷ array_methods)
set_in site objects o key x matched =
    set_named site key (codes "length" ∷ codes "index" ∷ codes "input" ∷ codes "groups" ∷ array_methods)
set_in site objects o key x (function code) = set_leaves site
set_in site objects o key x (regexp at p) = set_pattern site objects o key x
set_in site objects o key x (error name engine) = set_leaves site

-- a property of a value by a static key
unfoldable pub set_row : ℕ → Value → Text → Value → List Object → Written
set_row site undefined key x objects = Err (raises site kind.TypeError)
set_row site null key x objects = Err (raises site kind.TypeError)
set_row site (object o) key x objects = set_in site objects o key x (object_at objects o).class
set_row site _ key x objects = set_leaves site

abbrev pub written : Written → Place → (Place → Outcome) → Outcome
written (Ok objects) st go = go (record st { objects = objects })
written (Err a) st go = answer a st

-- an item behind the last one of an array that is being made
abbrev pub with_item : List Object → ℕ → Value → List Object
with_item objects o x =
    slice_set objects o (record (object_at objects o) { items = (object_at objects o).items ++ x ∷ [] })

abbrev pub add_item : ℕ → List Object → ℕ → Value → Written
add_item site objects o x =
    if nat_lt (length (object_at objects o).items) entry_limit then Ok (with_item objects o x) else no_room site
