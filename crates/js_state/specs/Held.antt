-- What a state holds.
use Rattle.std.specs.Prelude.{ℕ, Bool, List, [], ◌∷◌, Option, Some, None, map, slice_index_or, false}
use Rattle.js_heap.specs.declared.class.Class.{Class as Kind}
use Rattle.js_heap.specs.declared.class.Class.TheVariants as kind
use Rattle.js_heap.specs.Contents.{Object as Parts}
use Rattle.re_ast.specs.declared.patterns.Pattern.{Pattern}
use Rattle.re_ast.specs.declared.patterns.Node.TheVariants.{Empty}
use Rattle.term_table.specs.declared.term.Term.{Term}
use Rattle.term_table.specs.declared.shadow.Shadow.{Shadow}
use Rattle.js_meaning.specs.Values.{Text, Value, undefined, object, Scope, Body, statements, expression, Code, Class, plain, array, matched, function, regexp, error}
use Rattle.js_state.specs.declared.closure.Scope.{Scope as Around}
use Rattle.js_state.specs.declared.closure.Closure.{Closure}
use Rattle.js_state.specs.declared.closure.Code.{Code as Does}
use Rattle.js_state.specs.declared.closure.Code.TheVariants as does
use Rattle.js_state.specs.declared.held.Bound.{Bound}
use Rattle.js_state.specs.declared.held.Supplied.{Supplied}
use Rattle.js_state.specs.declared.held.RunMove.{RunMove}

-- ---- scopes and functions

abbrev pub this_of : Option ℕ → Value
this_of None = undefined
this_of (Some o) = object o

abbrev pub scope_of : Around → Scope
scope_of s = record { cell = s.cell; this = this_of s.this }

abbrev pub body_of : Does → Body
body_of (does.Statements ss) = statements ss.now
body_of (does.Expression e) = expression e.now

abbrev pub code_of : Closure → Code
code_of f = record { parameters = f.parameters.now; body = body_of f.code; is_arrow = f.is_arrow; scope = scope_of f.scope }

-- ---- objects

-- what a function is that isn't there
abbrev pub no_code : Code
no_code = record { parameters = []; body = statements []; is_arrow = false; scope = record { cell = None; this = undefined } }

abbrev pub code_at : List Closure → ℕ → Code
code_at fs k = slice_index_or (map code_of fs) k no_code

-- until patterns stand in scripts no object is one
abbrev pub no_pattern : Pattern
no_pattern =
    record { node = Empty; groups = 0; flags = record { global = false; ignore_case = false; multiline = false; sticky = false } }

abbrev pub class_of : List Closure → Kind → Class
class_of fs kind.Plain = plain
class_of fs kind.Array = array
class_of fs kind.Match = matched
class_of fs (kind.Function code scope) = function (code_at fs code)
class_of fs (kind.Pattern literal) = regexp literal no_pattern
class_of fs (kind.Error name engine) = error name engine

-- an object: its class, its properties in the order of their creation, and its items
pub record Held : Type 0 where
  pub class : Class
  pub properties : List (Text × Shadow)
  pub items : List Shadow

abbrev pub held_object : List Closure → Parts Shadow → Held
held_object fs o = record { class = class_of fs o.class; properties = o.properties; items = o.items }

-- ---- bindings

-- a binding, with its value where it is initialised
pub record Cell : Type 0 where
  pub name : Text
  pub is_mutable : Bool
  pub outer : Option ℕ
  pub value : Option Shadow

abbrev pub cell_of : Bound → Option Shadow → Cell
cell_of b value = record { name = b.name.now; is_mutable = b.is_mutable; outer = b.outer; value = value }

abbrev pub cells_of : List Bound → List (Option Shadow) → List Cell
cells_of [] vs = []
cells_of (b ∷ bs) [] = []
cells_of (b ∷ bs) (v ∷ vs) = cell_of b v ∷ cells_of bs vs

-- ---- the state

pub record Contents : Type 0 where
  pub inputs : List Supplied
  pub keeps : Bool
  pub allowed : ℕ
  pub cells : List Cell
  pub objects : List Held
  pub table : List Term
  pub moves : List RunMove
  pub events : ℕ
  pub turns : ℕ
  pub ended : ℕ
  pub nodes : ℕ
  pub joins : ℕ
