-- One layer of what an expression does, over the expressions in it.
use Rattle.std.proofs.Common.{◌≡◌, ℕ, List, [], ◌∷◌, ◌++◌, map, Option, Some, None, refl, ap, ◌∙◌, sym, Bool, if◌then◌else◌}
use Rattle.path_core.specs.declared.path.Why.TheVariants as why
use Rattle.js_ast.specs.declared.operators.BinaryOp.{BinaryOp}
use Rattle.js_ast.specs.declared.operators.LogicalOp.{LogicalOp}
use Rattle.js_ast.specs.declared.operators.StepOp.{StepOp}
use Rattle.js_ast.specs.declared.operators.UnaryOp.{UnaryOp}
use Rattle.js_ast.specs.declared.parts.Identifier.{Identifier}
use Rattle.js_ast.specs.declared.parts.Link.{Link}
use Rattle.js_ast.specs.declared.parts.Access.TheVariants as access
use Rattle.js_ast.specs.declared.parts.Suffix.{Suffix}
use Rattle.js_ast.specs.declared.parts.Suffix.TheVariants as suffix
use Rattle.js_ast.specs.declared.parts.Target.{Target}
use Rattle.js_ast.specs.declared.parts.Target.TheVariants as target
use Rattle.js_ast.specs.declared.parts.Member.{Member}
use Rattle.js_ast.specs.declared.parts.Member.TheVariants as member
use Rattle.js_ast.specs.declared.expression.Expr.{Expr}
use Rattle.js_ast.specs.declared.expression.Expr.TheOpen.{Expr-F}
use Rattle.js_ast.specs.declared.expression.Expr.TheVariants as e
use Rattle.js_ast.specs.declared.statement.Stmt.{Stmt}
use Rattle.js_meaning.specs.Values.{Text, Value, Scope, Place, plain, array, statements, expression}
use Rattle.js_meaning.specs.Running.{Reference, Outcome, bind, done, given, on_value, on_reference, leaves, count, play, new_object}
use Rattle.js_meaning.specs.Builtins.{Calls, among, error_names, construct}
use Rattle.js_meaning.specs.Conversions.{to_boolean}
use Rattle.js_meaning.specs.Objects.{written, add_item, add_property, get_bracket, property_row}
use Rattle.js_meaning.specs.Operators.{logical_row, goes_on}
use Rattle.js_meaning.specs.Names.{Found, bound, supplied, listed, nowhere, find_name, read_name}
use Rattle.js_meaning.specs.Parts.{Meaning, gather, elements, member_key, member_value, members, apply, links, decided, logical_links, settled, invoke, chain, Aim, aim, assign, step, make_function}
use Rattle.js_meaning.specs.Blocks.{arrow_code, function_expression}
use Rattle.js_meaning.specs.Meaning.{meaning_of, of_expr, new_found, new_of, text_literal, expr}
use Rattle.js_meaning.proofs.Opens.{with_expr, opens_expr}
use Rattle.js_meaning.proofs.Known.{link_with, binary_opens, logical_opens, member_with, object_opens, suffix_with, call_opens, target_with, step_opens, assign_opens}
use Rattle.js_meaning.proofs.KnownStatements.{trees_with}

-- ---- lists of parts

abbrev Gathers : Type 0
Gathers = Calls → ℕ → Scope → List Value → (List Value → Place → Outcome) → Place → Outcome

gather_same : (es : List Expr) → gather meaning_of (map with_expr es) ≡ gather expr es
gather_same [] = refl
gather_same (x ∷ es) =
    ap {B = Gathers} (λ (g : Gathers). λ calls k scope xs go st. bind (expr x calls k scope st) (on_value (λ y st. g calls k scope (xs ++ y ∷ []) go st))) (gather_same es)

abbrev Fills : Type 0
Fills = Calls → ℕ → Scope → ℕ → Place → Outcome

elements_same : (site : ℕ) (es : List Expr) → elements meaning_of site (map with_expr es) ≡ elements expr site es
elements_same site [] = refl
elements_same site (x ∷ es) =
    ap {B = Fills} (λ (g : Fills). λ calls k scope o st. bind (expr x calls k scope st) (on_value (λ y st. written (add_item site st.objects o y) st (g calls k scope o)))) (elements_same site es)

members_same : (site : ℕ) (ms : List (Member Expr)) → members meaning_of site (map member_with ms) ≡ members expr site ms
members_same site [] = refl
members_same site (member.Value at key x ∷ ms) =
    ap {B = Fills} (λ (g : Fills). λ calls k scope o st. bind (expr x calls k scope st) (on_value (λ y st. written (add_property site st.objects o (member_key {E = Expr} (member.Value at key x)) y) st (g calls k scope o)))) (members_same site ms)
members_same site (member.Shorthand name ∷ ms) =
    ap {B = Fills} (λ (g : Fills). λ calls k scope o st. bind (member_value expr (member.Shorthand name) calls k scope st) (on_value (λ y st. written (add_property site st.objects o name.name y) st (g calls k scope o)))) (members_same site ms)

abbrev Follows : Type 0
Follows = Calls → ℕ → Scope → Value → Place → Outcome

links_same : (ls : List (Link BinaryOp Expr)) → links meaning_of (map link_with ls) ≡ links expr ls
links_same [] = refl
links_same (l ∷ ls) =
    ap {B = Follows} (λ (g : Follows). λ calls k scope x st. count l.site st (λ st. bind (expr l.right calls k scope st) (on_value (λ y st. bind (apply l.op l.site x y st) (on_value (g calls k scope)))))) (links_same ls)

logical_same : (ls : List (Link LogicalOp Expr)) → logical_links meaning_of (map link_with ls) ≡ logical_links expr ls
logical_same [] = refl
logical_same (l ∷ ls) =
    ap {B = Follows} (λ (g : Follows). λ calls k scope x st. count l.site st (λ st. bind (play (logical_row l.op l.site x) st) (on_value (λ b st. bind (decided (goes_on l.op (to_boolean b)) (expr l.right) x calls k scope st) (on_value (g calls k scope)))))) (logical_same ls)

abbrev Refers : Type 0
Refers = Calls → ℕ → Scope → Reference → Place → Outcome

chain_same : (ss : List (Suffix Expr)) → chain meaning_of (map suffix_with ss) ≡ chain expr ss
chain_same [] = refl
chain_same (suffix.Access (access.Property site name) ∷ ss) =
    ap {B = Refers} (λ (g : Refers). λ calls k scope r st. settled r st (λ st. count site st (λ st. bind (play (property_row site r name st.objects) st) (on_reference (g calls k scope))))) (chain_same ss)
chain_same (suffix.Access (access.Index site is_static x) ∷ ss) =
    ap {B = Refers} (λ (g : Refers). λ calls k scope r st. settled r st (λ st. count site st (λ st. bind (expr x calls k scope st) (on_value (λ y st. bind (get_bracket site is_static r y st) (on_reference (g calls k scope))))))) (chain_same ss)
chain_same (suffix.Call site arguments ∷ ss) =
    ap {B = Refers} (λ (h : Gathers). λ calls k scope r st. count site st (h calls k scope [] (λ xs st. bind (invoke calls site r xs st) (on_reference (chain meaning_of (map suffix_with ss) calls k scope))))) (gather_same arguments)
    ∙ ap {B = Refers} (λ (g : Refers). λ calls k scope r st. count site st (gather expr arguments calls k scope [] (λ xs st. bind (invoke calls site r xs st) (on_reference (g calls k scope))))) (chain_same ss)

-- ---- targets

pub aim_same : (t : Target Expr) → aim meaning_of (target_with t) ≡ aim expr t
aim_same (target.Name name) = refl
aim_same (target.Access base (access.Property site name)) = refl
aim_same (target.Access base (access.Index site is_static x)) = refl

-- ---- expressions

abbrev pub Counted : Type 0
Counted = Calls → ℕ → Scope → Place → Outcome

pub expr_Name : (name : Identifier) → expr (e.Name name) ≡ (λ calls k scope st. count name.site st (λ st. read_name name.site name.name scope st))
expr_Name name = ap expr (sym (e.rolls-Name name)) ∙ opens_expr (Expr-F.Name name)

pub expr_Number : (site n : ℕ) → expr (e.Number site n) ≡ of_expr (Expr-F.Number site n)
expr_Number site n = ap expr (sym (e.rolls-Number site n)) ∙ opens_expr (Expr-F.Number site n)

pub expr_Text : (site : ℕ) (t : Text) → expr (e.Text site t) ≡ (λ calls k scope st. count site st (text_literal site t))
expr_Text site t = ap expr (sym (e.rolls-Text site t)) ∙ opens_expr (Expr-F.Text site t)

pub expr_Null : (site : ℕ) → expr (e.Null site) ≡ of_expr (Expr-F.Null site)
expr_Null site = ap expr (sym (e.rolls-Null site)) ∙ opens_expr (Expr-F.Null site)

pub expr_True : (site : ℕ) → expr (e.True site) ≡ of_expr (Expr-F.True site)
expr_True site = ap expr (sym (e.rolls-True site)) ∙ opens_expr (Expr-F.True site)

pub expr_False : (site : ℕ) → expr (e.False site) ≡ of_expr (Expr-F.False site)
expr_False site = ap expr (sym (e.rolls-False site)) ∙ opens_expr (Expr-F.False site)

pub expr_This : (site : ℕ) → expr (e.This site) ≡ of_expr (Expr-F.This site)
expr_This site = ap expr (sym (e.rolls-This site)) ∙ opens_expr (Expr-F.This site)

pub expr_Array : (site : ℕ) (items : List Expr) → expr (e.Array site items) ≡ (λ calls k scope st. count site st (λ st. new_object site array st (elements expr site items calls k scope)))
expr_Array site items =
    ap expr (sym (e.rolls-Array site items)) ∙ opens_expr (Expr-F.Array site items)
    ∙ ap {B = Counted} (λ (g : Fills). λ calls k scope st. count site st (λ st. new_object site array st (g calls k scope))) (elements_same site items)

pub expr_Object : (site : ℕ) (ms : List (Member Expr)) → expr (e.Object site ms) ≡ (λ calls k scope st. count site st (λ st. new_object site plain st (members expr site ms calls k scope)))
expr_Object site ms =
    ap expr (sym (e.rolls-Object site ms)) ∙ object_opens site ms
    ∙ ap {B = Counted} (λ (g : Fills). λ calls k scope st. count site st (λ st. new_object site plain st (g calls k scope))) (members_same site ms)

pub expr_Function : (site : ℕ) (name : Option Identifier) (ps : List Identifier) (body : List Stmt) → expr (e.FunctionExpression site name ps body) ≡ (λ calls k scope st. count site st (λ st. function_expression site name ps body scope st))
expr_Function site None ps body =
    ap expr (sym (e.rolls-FunctionExpression site None ps body)) ∙ opens_expr (Expr-F.FunctionExpression site None ps body)
    ∙ ap {B = Counted} (λ ts. λ calls k scope st. count site st (λ st. function_expression site None ps ts scope st)) (trees_with body)
expr_Function site (Some name) ps body =
    ap expr (sym (e.rolls-FunctionExpression site (Some name) ps body)) ∙ opens_expr (Expr-F.FunctionExpression site (Some name) ps body)
    ∙ ap {B = Counted} (λ ts. λ calls k scope st. count site st (λ st. function_expression site (Some name) ps ts scope st)) (trees_with body)

pub expr_Arrow : (site : ℕ) (ps : List Identifier) (value : Expr) → expr (e.Arrow site ps value) ≡ (λ calls k scope st. count site st (λ st. make_function site (arrow_code ps (expression value) scope) st (λ f st. done st (given f))))
expr_Arrow site ps value = ap expr (sym (e.rolls-Arrow site ps value)) ∙ opens_expr (Expr-F.Arrow site ps value)

pub expr_ArrowBlock : (site : ℕ) (ps : List Identifier) (body : List Stmt) → expr (e.ArrowBlock site ps body) ≡ (λ calls k scope st. count site st (λ st. make_function site (arrow_code ps (statements body) scope) st (λ f st. done st (given f))))
expr_ArrowBlock site ps body =
    ap expr (sym (e.rolls-ArrowBlock site ps body)) ∙ opens_expr (Expr-F.ArrowBlock site ps body)
    ∙ ap {B = Counted} (λ ts. λ calls k scope st. count site st (λ st. make_function site (arrow_code ps (statements ts) scope) st (λ f st. done st (given f)))) (trees_with body)

new_same : (site : ℕ) (name : Identifier) (es : List Expr) (f : Found) (calls : Calls) (k : ℕ) (scope : Scope) (st : Place) → new_found meaning_of site name (map with_expr es) calls k scope f st ≡ new_found expr site name es calls k scope f st
new_same site name es (bound n) calls k scope st = refl
new_same site name es (supplied x) calls k scope st = refl
new_same site name es nowhere calls k scope st = refl
new_same site name es listed calls k scope st =
    ap {B = Outcome} (λ (g : Gathers). if among name.name error_names then g calls k scope [] (construct site name.name) st else leaves site why.New st) (gather_same es)

new_all : (site : ℕ) (name : Identifier) (es : List Expr) → new_of meaning_of site name (map with_expr es) ≡ new_of expr site name es
new_all site name es = λ i calls k scope st. new_same site name es (find_name scope name.name st) calls k scope st i

pub expr_New : (site : ℕ) (name : Identifier) (es : List Expr) → expr (e.New site name es) ≡ (λ calls k scope st. count site st (λ st. new_of expr site name es calls k scope st))
expr_New site name es =
    ap expr (sym (e.rolls-New site name es)) ∙ opens_expr (Expr-F.New site name es)
    ∙ ap {B = Counted} (λ (g : Meaning). λ calls k scope st. count site st (λ st. g calls k scope st)) (new_all site name es)

pub expr_Call : (first : Expr) (ss : List (Suffix Expr)) → expr (e.Call first ss) ≡ (λ calls k scope st. bind (expr first calls k scope st) (on_reference (chain expr ss calls k scope)))
expr_Call first ss =
    ap expr (sym (e.rolls-Call first ss)) ∙ call_opens first ss
    ∙ ap {B = Counted} (λ (g : Refers). λ calls k scope st. bind (expr first calls k scope st) (on_reference (g calls k scope))) (chain_same ss)

pub expr_Unary : (site : ℕ) (op : UnaryOp) (x : Expr) → expr (e.Unary site op x) ≡ of_expr (Expr-F.Unary site op (with_expr x))
expr_Unary site op x = ap expr (sym (e.rolls-Unary site op x)) ∙ opens_expr (Expr-F.Unary site op x)

pub expr_Step : (start site : ℕ) (op : StepOp) (is_prefix : Bool) (t : Target Expr) → expr (e.Step start site op is_prefix t) ≡ (λ calls k scope st. count start st (aim expr t calls k scope (step op site is_prefix scope)))
expr_Step start site op is_prefix t =
    ap expr (sym (e.rolls-Step start site op is_prefix t)) ∙ step_opens start site op is_prefix t
    ∙ ap {B = Counted} (λ (g : Calls → ℕ → Scope → (Aim → Place → Outcome) → Place → Outcome). λ calls k scope st. count start st (g calls k scope (step op site is_prefix scope))) (aim_same t)

pub expr_Binary : (first : Expr) (ls : List (Link BinaryOp Expr)) → expr (e.Binary first ls) ≡ (λ calls k scope st. bind (expr first calls k scope st) (on_value (links expr ls calls k scope)))
expr_Binary first ls =
    ap expr (sym (e.rolls-Binary first ls)) ∙ binary_opens first ls
    ∙ ap {B = Counted} (λ (g : Follows). λ calls k scope st. bind (expr first calls k scope st) (on_value (g calls k scope))) (links_same ls)

pub expr_Logical : (first : Expr) (ls : List (Link LogicalOp Expr)) → expr (e.Logical first ls) ≡ (λ calls k scope st. bind (expr first calls k scope st) (on_value (logical_links expr ls calls k scope)))
expr_Logical first ls =
    ap expr (sym (e.rolls-Logical first ls)) ∙ logical_opens first ls
    ∙ ap {B = Counted} (λ (g : Follows). λ calls k scope st. bind (expr first calls k scope st) (on_value (g calls k scope))) (logical_same ls)

pub expr_Conditional : (start site : ℕ) (test so other : Expr) → expr (e.Conditional start site test so other) ≡ of_expr (Expr-F.Conditional start site (with_expr test) (with_expr so) (with_expr other))
expr_Conditional start site test so other = ap expr (sym (e.rolls-Conditional start site test so other)) ∙ opens_expr (Expr-F.Conditional start site test so other)

pub expr_Assign : (start site : ℕ) (op : Option BinaryOp) (t : Target Expr) (value : Expr) → expr (e.Assign start site op t value) ≡ (λ calls k scope st. count start st (aim expr t calls k scope (assign op site (expr value) calls k scope)))
expr_Assign start site op t value =
    ap expr (sym (e.rolls-Assign start site op t value)) ∙ assign_opens start site op t value
    ∙ ap {B = Counted} (λ (g : Calls → ℕ → Scope → (Aim → Place → Outcome) → Place → Outcome). λ calls k scope st. count start st (g calls k scope (assign op site (expr value) calls k scope))) (aim_same t)
