-- The texts of built-in names, of their listed properties, and of methods.
use Rattle.std.specs.Prelude.{codes, bytes_eq, Bool, false, ◌||◌, List, [], ◌∷◌}
use Rattle.js_meaning.specs.Values.{Text}
use Rattle.js_state.specs.declared.builtins.Builtin.{Builtin}
use Rattle.js_state.specs.declared.builtins.Builtin.TheVariants as builtin
use Rattle.js_state.specs.declared.builtins.Static.{Static}
use Rattle.js_state.specs.declared.builtins.Static.TheVariants as static
use Rattle.js_state.specs.declared.builtins.Method.{Method}
use Rattle.js_state.specs.declared.builtins.Method.TheVariants as method

abbrev pub builtin_text : Builtin → Text
builtin_text builtin.Undefined = codes "undefined"
builtin_text builtin.NotNumber = codes "NaN"
builtin_text builtin.ParseInt = codes "parseInt"
builtin_text builtin.String = codes "String"
builtin_text builtin.Object = codes "Object"
builtin_text builtin.Array = codes "Array"
builtin_text builtin.Error = codes "Error"
builtin_text builtin.TypeError = codes "TypeError"
builtin_text builtin.RangeError = codes "RangeError"
builtin_text builtin.ReferenceError = codes "ReferenceError"

-- the name that a listed property is one of
abbrev pub owner_of : Static → Text
owner_of static.FromCharCode = codes "String"
owner_of static.Keys = codes "Object"
owner_of static.IsArray = codes "Array"

abbrev pub key_of : Static → Text
key_of static.FromCharCode = codes "fromCharCode"
key_of static.Keys = codes "keys"
key_of static.IsArray = codes "isArray"

abbrev pub method_text : Method → Text
method_text method.CharAt = codes "charAt"
method_text method.CharCodeAt = codes "charCodeAt"
method_text method.IndexOf = codes "indexOf"
method_text method.Includes = codes "includes"
method_text method.StartsWith = codes "startsWith"
method_text method.EndsWith = codes "endsWith"
method_text method.Slice = codes "slice"
method_text method.Substring = codes "substring"
method_text method.ToLowerCase = codes "toLowerCase"
method_text method.ToUpperCase = codes "toUpperCase"
method_text method.Trim = codes "trim"
method_text method.Concat = codes "concat"
method_text method.Split = codes "split"
method_text method.Match = codes "match"
method_text method.Search = codes "search"
method_text method.Replace = codes "replace"
method_text method.Push = codes "push"
method_text method.Pop = codes "pop"
method_text method.Shift = codes "shift"
method_text method.Join = codes "join"
method_text method.Map = codes "map"
method_text method.Filter = codes "filter"
method_text method.ForEach = codes "forEach"
method_text method.Some = codes "some"
method_text method.Every = codes "every"
method_text method.Reduce = codes "reduce"
method_text method.Exec = codes "exec"
method_text method.Test = codes "test"
method_text method.FromCharCode = codes "fromCharCode"
method_text method.Keys = codes "keys"
method_text method.IsArray = codes "isArray"

-- whether the name is that of one of them
abbrev pub is_one_of : List Builtin → Text → Bool
is_one_of [] name = false
is_one_of (b ∷ bs) name = bytes_eq name (builtin_text b) || is_one_of bs name

abbrev pub is_called : List Method → Text → Bool
is_called [] name = false
is_called (m ∷ ms) name = bytes_eq name (method_text m) || is_called ms name
