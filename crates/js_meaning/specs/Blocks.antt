-- Blocks: the names that they declare, what is done on entry, statements one after the other, and functions made and entered.
use Rattle.std.specs.Prelude.{ℕ, Bool, true, false, List, [], ◌∷◌, ◌++◌, Option, Some, None}
use Rattle.js_ast.specs.declared.expression.Expr.TheOpen.{Stmt-F}
use Rattle.js_ast.specs.declared.statement.Stmt.{Stmt, out-Stmt}
use Rattle.js_ast.specs.declared.operators.DeclarationKind.{DeclarationKind}
use Rattle.js_ast.specs.declared.operators.DeclarationKind.TheVariants.{Let, Const}
use Rattle.js_ast.specs.declared.parts.Declarator.{Declarator}
use Rattle.js_ast.specs.declared.parts.Identifier.{Identifier}
use Rattle.js_meaning.specs.Values.{Text, Value, undefined, Scope, Body, statements, Code, Place}
use Rattle.js_meaning.specs.Running.{Outcome, done, bind, given, normal, on_value, on_normal, turn}
use Rattle.js_meaning.specs.Names.{open_cell, init_name}
use Rattle.js_meaning.specs.Parts.{Meaning, make_function}

-- ---- declared names

pub record Declaration : Type 0 where
  pub site : ℕ
  pub name : Text
  pub is_mutable : Bool

abbrev pub declaration : Bool → Identifier → Declaration
declaration is_mutable name = record { site = name.site; name = name.name; is_mutable = is_mutable }

-- `let` may be assigned, `const` may not
abbrev pub is_let : DeclarationKind → Bool
is_let Let = true
is_let Const = false

abbrev pub declared_of : {E : Type 0} → DeclarationKind → List (Declarator E) → List Declaration
declared_of kind [] = []
declared_of kind (d ∷ ds) = declaration (is_let kind) d.name ∷ declared_of kind ds

abbrev pub declared_by : {E S A : Type 0} → Stmt-F E S A → List Declaration
declared_by (Stmt-F.Declare site kind ds) = declared_of kind ds
declared_by (Stmt-F.Function site name parameters body) = declaration true name ∷ []
declared_by _ = []

-- LexicallyScopedDeclarations (8.2.5)
abbrev pub names_of : List Stmt → List Declaration
names_of [] = []
names_of (s ∷ ss) = declared_by (out-Stmt s) ++ names_of ss

-- a binding for each, not initialised, at the site of its name
abbrev pub open_names : List Declaration → Scope → Place → (Scope → Place → Outcome) → Outcome
open_names [] scope st go = go scope st
open_names (d ∷ ds) scope st go =
    open_cell d.site d.name d.is_mutable None scope st (λ scope st. open_names ds scope st go)

-- ---- functions are made

-- a function has the `this` of its call, an arrow the one around it (10.2.3, OrdinaryFunctionCreate)
abbrev pub plain_code : List Identifier → List Stmt → Scope → Code
plain_code parameters body scope =
    record { parameters = parameters; body = statements body; is_arrow = false; scope = scope }

abbrev pub arrow_code : List Identifier → Body → Scope → Code
arrow_code parameters body scope = record { parameters = parameters; body = body; is_arrow = true; scope = scope }

-- InstantiateOrdinaryFunctionExpression (15.2.5): its own name, which may not be assigned, is bound around it
abbrev pub function_expression : ℕ → Option Identifier → List Identifier → List Stmt → Scope → Place → Outcome
function_expression site None parameters body scope st =
    make_function site (plain_code parameters body scope) st (λ f st. done st (given f))
function_expression site (Some name) parameters body scope st =
    open_cell name.site name.name false None scope st (λ scope st.
    make_function site (plain_code parameters body scope) st (λ f st. done (init_name name.name scope f st) (given f)))

abbrev pub start_function : {E A : Type 0} → Stmt-F E Stmt A → Scope → Place → (Place → Outcome) → Outcome
start_function (Stmt-F.Function site name parameters body) scope st go =
    make_function site (plain_code parameters body scope) st (λ f st. go (init_name name.name scope f st))
start_function _ scope st go = go st

-- function declarations are initialised when their block is entered
abbrev pub start_functions : List Stmt → Scope → Place → (Place → Outcome) → Outcome
start_functions [] scope st go = go st
start_functions (s ∷ ss) scope st go = start_function (out-Stmt s) scope st (λ st. start_functions ss scope st go)

-- ---- blocks

-- BlockDeclarationInstantiation (14.2.3)
abbrev pub enter : List Stmt → Scope → Place → (Scope → Place → Outcome) → Outcome
enter body scope st go = open_names (names_of body) scope st (λ scope st. start_functions body scope st (go scope))

-- statements in their order, as long as each ends normally (14.2.2)
abbrev pub run_all : List Meaning → Meaning
run_all [] calls k scope st = done st normal
run_all (m ∷ ms) calls k scope st = bind (m calls k scope st) (on_normal (run_all ms calls k scope))

-- a block of statements, each with its meaning
abbrev pub block : List Stmt → List Meaning → Meaning
block trees ms calls k scope st = enter trees scope st (run_all ms calls k)

-- ---- declarations (14.3.1.2)

-- a name with no value beside it gets undefined
abbrev pub initial : {E : Type 0} → (E → Meaning) → Option E → Meaning
initial run None calls k scope st = done st (given undefined)
initial run (Some e) calls k scope st = run e calls k scope st

abbrev pub declare : {E : Type 0} → (E → Meaning) → List (Declarator E) → Meaning
declare run [] calls k scope st = done st normal
declare run (d ∷ ds) calls k scope st =
    bind (initial run d.value calls k scope st) (on_value
    (λ x st. declare run ds calls k scope (init_name d.name.name scope x st)))

-- ---- functions are entered

-- a missing argument is undefined
abbrev pub first_of : List Value → Value
first_of [] = undefined
first_of (x ∷ xs) = x

abbrev pub rest_of : List Value → List Value
rest_of [] = []
rest_of (x ∷ xs) = xs

-- FunctionDeclarationInstantiation (10.2.11): the parameters, each at its own site; further arguments are left out
abbrev pub open_parameters : List Identifier → List Value → Scope → Place → (Scope → Place → Outcome) → Outcome
open_parameters [] xs scope st go = go scope st
open_parameters (p ∷ ps) xs scope st go =
    open_cell p.site p.name true (Some (first_of xs)) scope st (λ scope st. open_parameters ps (rest_of xs) scope st go)

-- OrdinaryCallBindThis (10.2.1.2)
abbrev pub with_this : Bool → Value → Scope → Scope
with_this true this scope = scope
with_this false this scope = record scope { this = this }

-- a call takes a turn; then the scope of its function, with its `this` and its parameters (10.2.1)
abbrev pub activate : ℕ → Code → Value → List Value → Place → (Scope → Place → Outcome) → Outcome
activate site code this xs st go =
    turn site st (λ st. open_parameters code.parameters xs (with_this code.is_arrow this code.scope) st go)
