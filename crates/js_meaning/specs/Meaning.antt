-- What a script does, big-step, by cases on its tree (ECMA-262, evaluation of strict mode code).
use Rattle.std.specs.Prelude.{ℕ, zero, suc, ◌+◌, Bool, true, false, pos, min, nat_le, length, List, [], ◌∷◌, map, Option, Some, None, option_map, if◌then◌else◌}
use Rattle.path_core.specs.declared.path.ErrorName.TheVariants as kind
use Rattle.path_core.specs.declared.path.Why.TheVariants as why
use Rattle.js_ast.specs.declared.expression.Expr.{Expr, para-Expr}
use Rattle.js_ast.specs.declared.expression.Expr.TheOpen.{Expr-F, Stmt-F, Arm-F}
use Rattle.js_ast.specs.declared.statement.Stmt.{Stmt, para-Stmt}
use Rattle.js_ast.specs.declared.statement.Arm.{Arm, para-Arm}
use Rattle.js_ast.specs.declared.parts.Catch.{Catch}
use Rattle.js_ast.specs.declared.parts.Identifier.{Identifier}
use Rattle.js_ast.specs.declared.parts.LoopHead.{LoopHead}
use Rattle.js_ast.specs.declared.parts.LoopHead.TheVariants as head
use Rattle.js_values.specs.Numbers.{most_safe}
use Rattle.js_meaning.specs.Values.{Text, Value, undefined, null, truth, int, text, Scope, Body, statements, expression, Code, Place, plain, array}
use Rattle.js_meaning.specs.Running.{Completion, given, normal, breaks, continues, returns, throws, stops, Outcome, done, bind, leaves, count, new_object, throw, throw_error, play, on_value, its_value, on_reference, text_limit}
use Rattle.js_meaning.specs.Builtins.{Calls, among, error_names, construct}
use Rattle.js_meaning.specs.Objects.{code_of}
use Rattle.js_meaning.specs.Operators.{unary_row}
use Rattle.js_meaning.specs.Names.{Found, listed, find_name, read_name, read_found, open_cell}
use Rattle.js_meaning.specs.Parts.{Meaning, branch, make_function, gather, elements, members, links, logical_links, chain, aim, assign, step}
use Rattle.js_meaning.specs.Blocks.{Declaration, declaration, is_let, declared_of, open_names, arrow_code, function_expression, block, declare, activate}
use Rattle.js_meaning.specs.Loops.{Part, spent, while_loop, do_loop, next_scope, for_loop, of_loop, of_start, kept, open_catch}
use Rattle.js_meaning.specs.Nodes.{expr_node, stmt_node, count_at}

-- a part of the tree, beside what it does; of an arm of an `if`, what it does before a given rest
abbrev pub Arms : Type 0
Arms = Meaning → Meaning

abbrev pub meaning_of : {T M : Type 0} → T × M → M
meaning_of p = p.1

abbrev pub trees_of : List (Stmt × Meaning) → List Stmt
trees_of ps = map (λ p. p.0) ps

abbrev pub block_of : List (Stmt × Meaning) → Meaning
block_of ps = block (trees_of ps) (map (λ p. p.1) ps)

-- ---- expressions

-- a literal of more units than a string may have leaves the profile
abbrev pub text_literal : ℕ → Text → Place → Outcome
text_literal site t st = if nat_le (length t) text_limit then done st (given (text t)) else leaves site why.Size st

-- a whole number above the greatest safe integer leaves the profile; no script spells one
abbrev pub number_literal : ℕ → ℕ → Place → Outcome
number_literal site n st = if nat_le n most_safe then done st (given (int (pos n))) else leaves site why.Size st

-- `new` of anything but the constructor of an error leaves the profile, before its arguments
abbrev pub new_found : {E : Type 0} → (E → Meaning) → ℕ → Identifier → List E → Calls → ℕ → Scope → Found → Place →
    Outcome
new_found run site name arguments calls k scope listed st =
    if among name.name error_names
    then gather run arguments calls k scope [] (construct site name.name) st
    else leaves site why.New st
new_found run site name arguments calls k scope f st =
    bind (read_found name.site name.name f st) (on_value (λ x st. leaves site why.New st))

-- 13.3.5: the name is looked up first, as in any reading
abbrev pub new_of : {E : Type 0} → (E → Meaning) → ℕ → Identifier → List E → Meaning
new_of run site name arguments calls k scope st =
    new_found run site name arguments calls k scope (find_name scope name.name st) st

abbrev pub chosen : Bool → Meaning → Meaning → Meaning
chosen true so other = so
chosen false so other = other

-- an expression that was counted, by its parts and what they do
abbrev pub in_expr : Expr-F (Expr × Meaning) (Stmt × Meaning) (Arm × Arms) → Meaning
in_expr (Expr-F.Name name) calls k scope st = read_name name.site name.name scope st
in_expr (Expr-F.Number site n) calls k scope st = number_literal site n st
in_expr (Expr-F.Text site t) calls k scope st = text_literal site t st
in_expr (Expr-F.Null site) calls k scope st = done st (given null)
in_expr (Expr-F.True site) calls k scope st = done st (given (truth true))
in_expr (Expr-F.False site) calls k scope st = done st (given (truth false))
in_expr (Expr-F.This site) calls k scope st = done st (given scope.this)
in_expr (Expr-F.Array site items) calls k scope st =
    new_object site array st (elements meaning_of site items calls k scope)
in_expr (Expr-F.Object site ms) calls k scope st = new_object site plain st (members meaning_of site ms calls k scope)
in_expr (Expr-F.FunctionExpression site name parameters body) calls k scope st =
    function_expression site name parameters (trees_of body) scope st
in_expr (Expr-F.Arrow site parameters value) calls k scope st =
    make_function site (arrow_code parameters (expression value.0) scope) st (λ f st. done st (given f))
in_expr (Expr-F.ArrowBlock site parameters body) calls k scope st =
    make_function site (arrow_code parameters (statements (trees_of body)) scope) st (λ f st. done st (given f))
in_expr (Expr-F.New site name arguments) calls k scope st = new_of meaning_of site name arguments calls k scope st
in_expr (Expr-F.Call first suffixes) calls k scope st =
    bind (first.1 calls k scope st) (on_reference (chain meaning_of suffixes calls k scope))
in_expr (Expr-F.Unary site op operand) calls k scope st =
    bind (operand.1 calls k scope st) (on_value (λ x st. play (unary_row op site x st.objects) st))
in_expr (Expr-F.Step start site op is_prefix t) calls k scope st =
    aim meaning_of t calls k scope (step op site is_prefix scope) st
in_expr (Expr-F.Binary first ls) calls k scope st =
    bind (first.1 calls k scope st) (on_value (links meaning_of ls calls k scope))
in_expr (Expr-F.Logical first ls) calls k scope st =
    bind (first.1 calls k scope st) (on_value (logical_links meaning_of ls calls k scope))
in_expr (Expr-F.Conditional start site test consequent alternate) calls k scope st =
    bind (test.1 calls k scope st) (on_value (λ x st. branch site x st (λ holds st.
    bind (chosen holds consequent.1 alternate.1 calls k scope st) its_value)))
in_expr (Expr-F.Assign start site op t value) calls k scope st =
    aim meaning_of t calls k scope (assign op site value.1 calls k scope) st

abbrev pub of_expr : Expr-F (Expr × Meaning) (Stmt × Meaning) (Arm × Arms) → Meaning
of_expr f calls k scope st = count_at (expr_node f) st (in_expr f calls k scope)

-- ---- statements

abbrev pub gives_nothing : Value → Place → Outcome
gives_nothing x st = done st normal

abbrev pub optional : Option (Stmt × Meaning) → Meaning
optional None calls k scope st = done st normal
optional (Some s) calls k scope st = s.1 calls k scope st

-- an arm of an `if` (14.6.2), which counts as a statement, before the rest
abbrev pub of_arm : Arm-F (Expr × Meaning) (Stmt × Meaning) (Arm × Arms) → Arms
of_arm arm rest calls k scope st =
    count arm.site st (λ st. bind (arm.test.1 calls k scope st) (on_value (λ x st.
    branch arm.site x st (λ holds. chosen holds arm.consequent.1 rest calls k scope))))

abbrev pub all_arms : List (Arm × Arms) → Meaning → Meaning
all_arms [] rest = rest
all_arms (a ∷ arms) rest = a.1 (all_arms arms rest)

abbrev pub part_of : Calls → Expr × Meaning → Part
part_of calls e k scope st = e.1 calls k scope st

abbrev pub perhaps : Calls → Option (Expr × Meaning) → Option Part
perhaps calls e = option_map (part_of calls) e

-- behind the declarations of the head: first fresh bindings of `let`, and none of `const`
abbrev pub for_declared : Bool → List Declaration → Scope → Scope → (List Declaration → Scope → Place → Outcome) →
    Place → Completion → Outcome
for_declared true names outer scope go st normal = next_scope names scope outer st (go names)
for_declared false names outer scope go st normal = go [] scope st
for_declared is_let names outer scope go st c = done st c

-- 14.7.4.2: what stands first in the head, and then the loop, with the names that get fresh bindings in each round
abbrev pub for_head : LoopHead (Expr × Meaning) → Calls → ℕ → Scope → (List Declaration → Scope → Place → Outcome) →
    Place → Outcome
for_head head.Nothing calls k scope go st = go [] scope st
for_head (head.Value e) calls k scope go st = bind (e.1 calls k scope st) (on_value (λ x st. go [] scope st))
for_head (head.Declare kind ds) calls k outer go st =
    open_names (declared_of kind ds) outer st (λ scope st.
    bind (declare meaning_of ds calls k scope st) (for_declared (is_let kind) (declared_of kind ds) outer scope go))

-- ForIn/OfHeadEvaluation (14.7.5.6): the iterated expression stands where the name isn't initialised
abbrev pub for_of : ℕ → Declaration → Meaning → Part → Calls → ℕ → Scope → Place → Outcome
for_of site name items body calls k scope st =
    open_cell name.site name.name name.is_mutable None scope st (λ inner st.
    bind (items calls k inner st) (on_value (of_start site (λ o. of_loop (suc k) site name body o 0 scope))))

-- CatchClauseEvaluation (14.15.2)
abbrev pub caught : Option (Catch (List (Stmt × Meaning))) → Calls → ℕ → Scope → Place → Completion → Outcome
caught (Some c) calls k scope st (throws site x) = open_catch c.name x scope st (block_of c.body calls k)
caught _ calls k scope st c = done st c

-- a run that has stopped goes into no `finally`
abbrev pub finished : Option (List (Stmt × Meaning)) → Calls → ℕ → Scope → Place → Completion → Outcome
finished finally calls k scope st (stops end) = done st (stops end)
finished None calls k scope st c = done st c
finished (Some body) calls k scope st c = bind (block_of body calls k scope st) (kept c)

abbrev pub return_of : Option (Expr × Meaning) → Meaning
return_of None calls k scope st = done st (returns undefined)
return_of (Some e) calls k scope st = bind (e.1 calls k scope st) (on_value (λ x st. done st (returns x)))

-- a statement that was counted, by its parts and what they do
abbrev pub in_stmt : Stmt-F (Expr × Meaning) (Stmt × Meaning) (Arm × Arms) → Meaning
in_stmt (Stmt-F.Block site body) calls k scope st = block_of body calls k scope st
in_stmt (Stmt-F.Nothing site) calls k scope st = done st normal
in_stmt (Stmt-F.Declare site kind ds) calls k scope st = declare meaning_of ds calls k scope st
in_stmt (Stmt-F.Function site name parameters body) calls k scope st = done st normal
in_stmt (Stmt-F.Express site value) calls k scope st = bind (value.1 calls k scope st) (on_value gives_nothing)
in_stmt (Stmt-F.If arms alternate) calls k scope st = all_arms arms (optional alternate) calls k scope st
in_stmt (Stmt-F.While site test body) calls k scope st =
    while_loop (suc k) site (part_of calls test) (body.1 calls) scope st
in_stmt (Stmt-F.Do site body test_site test) calls k scope st =
    do_loop (suc k) site test_site (part_of calls test) (body.1 calls) scope st
in_stmt (Stmt-F.For site h test update body) calls k outer st =
    for_head h calls k outer (λ names. for_loop (suc k) site names (perhaps calls test) (perhaps calls update) (body.1 calls) outer) st
in_stmt (Stmt-F.ForOf site kind name items body) calls k scope st =
    for_of site (declaration (is_let kind) name) items.1 (body.1 calls) calls k scope st
in_stmt (Stmt-F.Break site) calls k scope st = done st breaks
in_stmt (Stmt-F.Continue site) calls k scope st = done st continues
in_stmt (Stmt-F.Return site value) calls k scope st = return_of value calls k scope st
in_stmt (Stmt-F.Throw site value) calls k scope st = bind (value.1 calls k scope st) (on_value (throw site))
in_stmt (Stmt-F.Try site body catch finally) calls k scope st =
    bind (bind (block_of body calls k scope st) (caught catch calls k scope)) (finished finally calls k scope)

abbrev pub of_stmt : Stmt-F (Expr × Meaning) (Stmt × Meaning) (Arm × Arms) → Meaning
of_stmt f calls k scope st = count_at (stmt_node f) st (in_stmt f calls k scope)

-- ---- trees

unfoldable pub expr : Expr → Meaning
expr = para-Expr Meaning Meaning Arms of_expr of_stmt of_arm

unfoldable pub stmt : Stmt → Meaning
stmt = para-Stmt Meaning Meaning Arms of_expr of_stmt of_arm

unfoldable pub arm : Arm → Arms
arm = para-Arm Meaning Meaning Arms of_expr of_stmt of_arm

unfoldable pub stmts : List Stmt → List Meaning
stmts = map stmt

-- ---- calls (10.2.1, [[Call]])

-- an end holds the number in 32 bits; it stays at or below the turns taken, so it doesn't come to the greatest one
abbrev pub most_ended : ℕ
most_ended = 4294967295

-- an activation of a function has ended
abbrev pub end_activation : Place → Place
end_activation st = record st { ended = min (st.ended + 1) most_ended }

-- the completion of a body is that of the call: its value, or undefined
abbrev pub returned : Place → Completion → Outcome
returned st (stops end) = done st (stops end)
returned st (returns x) = done (end_activation st) (given x)
returned st (throws site x) = done (end_activation st) (throws site x)
returned st _ = done (end_activation st) (given undefined)

-- FunctionBody and ConciseBody (15.2.3, 15.3.3)
unfoldable pub body_of : Body → Meaning
body_of (statements ss) calls k scope st = block ss (stmts ss) calls k scope st
body_of (expression e) calls k scope st = bind (expr e calls k scope st) (on_value (λ x st. done st (returns x)))

abbrev pub call : Option Code → Calls → ℕ → ℕ → Value → List Value → Place → Outcome
call None calls k site this xs st = throw_error site kind.TypeError st
call (Some code) calls k site this xs st =
    activate site code this xs st (λ scope st. bind (body_of code.body calls k scope st) returned)

-- calls that nest less than so many times deep; the turns run out before
abbrev pub calls_in : ℕ → Calls
calls_in zero site f this xs st = spent site st
calls_in (suc n) site f this xs st = call (code_of f st.objects) (calls_in n) n site this xs st

-- ---- scripts (16.1.6, ScriptEvaluation)

abbrev pub outermost : Scope
outermost = record { cell = None; this = undefined }

-- as many turns as are left bound how deep calls nest and how often a loop goes round
unfoldable pub whole_of : List Stmt → Place → Outcome
whole_of body st = block body (stmts body) (calls_in (suc st.turns)) st.turns outermost st
