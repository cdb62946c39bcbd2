-- Values and the store: objects, bindings, scopes, and what a run counts.
use Rattle.std.specs.Prelude.{ℕ, ℤ, Bool, List, Option}
use Rattle.path_core.specs.declared.path.ErrorName.{ErrorName}
use Rattle.re_ast.specs.declared.patterns.Pattern.{Pattern}
use Rattle.re_ast.specs.Execution.{Match}
use Rattle.js_ast.specs.declared.expression.Expr.{Expr}
use Rattle.js_ast.specs.declared.statement.Stmt.{Stmt}
use Rattle.js_ast.specs.declared.parts.Identifier.{Identifier}

-- a string is a list of code units (6.1.4)
abbrev pub Text : Type 0
Text = List ℕ

-- the values of the language (6.1): numbers are safe integers and NaN, and objects are numbered from 0
pub data Value : Type 0 where
  undefined : Value
  null : Value
  truth : Bool → Value
  int : ℤ → Value
  nan : Value
  text : Text → Value
  object : ℕ → Value

-- what stands around a part of a script (9.1): its innermost binding, if it has one, and the `this` of its function (9.1.1.3)
pub record Scope : Type 0 where
  pub cell : Option ℕ
  pub this : Value

-- a binding (9.1.1.1): its name, whether it may be assigned, the binding next outwards, and its value, which is missing
-- before its initialisation
pub record Binding : Type 0 where
  pub name : Text
  pub is_mutable : Bool
  pub outer : Option ℕ
  pub value : Option Value

-- what a function does (10.2, [[ECMAScriptCode]]): statements between braces, or the one expression of an arrow
pub data Body : Type 0 where
  statements : List Stmt → Body
  expression : Expr → Body

-- what a function object holds (10.2)
pub record Code : Type 0 where
  pub parameters : List Identifier
  pub body : Body
  pub is_arrow : Bool
  pub scope : Scope

-- the kinds of objects: a plain one, an array, the result of a match, a function, a pattern of the literal at a site, and
-- an error with its name, and whether the engine threw it
pub data Class : Type 0 where
  plain : Class
  array : Class
  matched : Class
  function : Code → Class
  regexp : ℕ → Pattern → Class
  error : ErrorName → Bool → Class

-- an object (6.1.7): its properties in the order of their creation, and the items of an array by their indexes
pub record Object : Type 0 where
  pub class : Class
  pub properties : List (Text × Value)
  pub items : List Value

-- answers for the single execs of patterns, the first exec's first: each entry holds one, which is a match or none, or holds no
-- answer; there, and where the list has ended, the standard's match is taken
abbrev pub Answers : Type 0
Answers = List (Option (Option Match))

-- what a run is given: the inputs' names, each with its value, the turns that it may take, and answers for its single execs
pub record Given : Type 0 where
  pub inputs : List (Text × Value)
  pub turns : ℕ
  pub answers : Answers

-- where a run has come to: its bindings and objects, each numbered from 0; the events made, the turns left, the
-- activations of functions that have ended since the last turn was taken, the nodes used, the joins of strings and the
-- single execs made
pub record Place : Type 0 where
  pub run : Given
  pub cells : List Binding
  pub objects : List Object
  pub events : ℕ
  pub turns : ℕ
  pub ended : ℕ
  pub nodes : ℕ
  pub joins : ℕ
  pub execs : ℕ
