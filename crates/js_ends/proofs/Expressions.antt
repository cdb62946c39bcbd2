-- Expressions keep exits apart, one layer at a time: the places of what stands below are given.
use Rattle.std.proofs.Common.{ℕ, suc, ◌≡◌, ◌≤◌, ◌<◌, ◌⊎◌, inl, inr, Bool, true, false, nat_le, pos, length, List, [], ◌∷◌, map, Option, Some, None, refl, sym, subst, arith}
use Rattle.path_core.specs.declared.path.Why.{Why}
use Rattle.path_core.specs.declared.path.Why.TheVariants as why
use Rattle.js_ast.specs.declared.expression.Expr.{Expr, roll-Expr}
use Rattle.js_ast.specs.declared.expression.Expr.TheVariants as e
use Rattle.js_ast.specs.declared.expression.Expr.TheOpen.{Expr-F}
use Rattle.js_ast.specs.declared.statement.Stmt.{Stmt}
use Rattle.js_ast.specs.declared.statement.Arm.{Arm}
use Rattle.js_ast.specs.declared.operators.BinaryOp.{BinaryOp}
use Rattle.js_ast.specs.declared.operators.LogicalOp.{LogicalOp}
use Rattle.js_ast.specs.declared.operators.StepOp.{StepOp}
use Rattle.js_ast.specs.declared.operators.UnaryOp.{UnaryOp}
use Rattle.js_ast.specs.declared.parts.Identifier.{Identifier}
use Rattle.js_ast.specs.declared.parts.Link.{Link}
use Rattle.js_ast.specs.declared.parts.Suffix.{Suffix}
use Rattle.js_ast.specs.declared.parts.Target.{Target}
use Rattle.js_ast.specs.declared.parts.Member.{Member}
use Rattle.js_grammar.specs.Grammar.{binary_of, logical_of, call_of}
use Rattle.js_values.specs.Numbers.{most_safe}
use Rattle.js_meaning.specs.Values.{Text, Value, int, null, truth, text, Scope, statements, expression, array, plain, Place}
use Rattle.js_meaning.specs.Running.{given, Outcome, done, bind, leaves, on_value, its_value, play, text_limit}
use Rattle.js_meaning.specs.Builtins.{Calls, among, error_names, construct}
use Rattle.js_meaning.specs.Names.{Found, bound, supplied, listed, nowhere as missing, find_name, read_found}
use Rattle.js_meaning.specs.Operators.{unary_row}
use Rattle.js_meaning.specs.Parts.{Meaning, branch, elements, members, links, logical_links, chain}
use Rattle.js_meaning.specs.Blocks.{arrow_code}
use Rattle.js_meaning.specs.Meaning.{Arms, meaning_of, trees_of, new_found, chosen, in_expr, of_expr, expr}
use Rattle.js_meaning.specs.Nodes.{expr_node, count_at}
use Rattle.js_meaning.specs.Apart.{Sites, nowhere, only}
use Rattle.js_meaning.proofs.RowsApart.{unary_apart, unary_value}
use Rattle.js_meaning.proofs.Opens.{with_expr, with_stmt, opens_expr}
use Rattle.js_meaning.proofs.Known.{link_with, binary_opens, logical_opens, member_with, object_opens, suffix_with, call_opens, target_with, step_opens, assign_opens}
use Rattle.js_meaning.proofs.KnownStatements.{trees_with}
use Rattle.js_ends.proofs.Fresh.{moment, SpeltStatements, SpeltExpression, Stands, Fresh, Sub, Off, fresh_wider}
use Rattle.js_ends.proofs.Forms.{if_fresh, done_fresh, leaves_fresh, count_fresh, new_fresh, Used, apart_fits}
use Rattle.js_ends.proofs.Binds.{Either, Within, Steps, value_bind, reference_bind, branch_fresh, row_alone}
use Rattle.js_ends.proofs.Names.{read_fresh, found_fresh}
use Rattle.js_ends.proofs.Lists.{CallsFresh, Passing, Part, within, used_within, part_wider, plain_part, part_value, EachIn, each_le, gather_fresh, Head, elements_fresh, MembersIn, members_le, members_fresh, LinksIn, links_le, links_fresh, logical_fresh}
use Rattle.js_ends.proofs.Chains.{construct_fresh, SuffixesIn, suffixes_le, quiet_behind, quiet_later, quiet_inside, chain_fresh}
use Rattle.js_ends.proofs.Aims.{TargetIn, assign_part, step_part}
use Rattle.js_ends.proofs.Blocks.{NameIn, function_fresh, expression_fresh}

-- ---- one layer

counted : (Q F T : Sites) (d : ℕ) (o : Option ℕ) (st : Place) (go : Place → Outcome) → Stands d st →
    Steps Q F T d go → Fresh Q F T d (moment st) (count_at o st go)
counted Q F T d None st go s k = k st s
counted Q F T d (Some site) st go s k = count_fresh Q F T d site st go s k

pub expr_layer : {lo hi : ℕ} (f : Expr-F Expr Stmt Arm) (x : Expr) (w : Expr-F (Expr × Meaning) (Stmt × Meaning)
    (Arm × Arms)) → roll-Expr f ≡ x → expr (roll-Expr f) ≡ of_expr w → Part lo hi (in_expr w) → Part lo hi (expr x)
expr_layer {lo} {hi} f x w p q h =
    subst (λ (x : Expr). Part lo hi (expr x)) p (subst (λ (m : Meaning). Part lo hi m) (sym q) (record {
      quiet = h.quiet;
      le = h.le;
      inside = h.inside;
      good = λ calls c k scope d st s. counted (Used h.quiet) (Within lo hi) (Passing lo hi h.quiet) d (expr_node w) st (in_expr w calls k scope) s (λ st s. h.good calls c k scope d st s);
    }))

-- ---- names and literals

pub name_part : (lo hi : ℕ) (n : Identifier) → lo ≤ n.site → n.site < hi → Part lo hi (expr (e.Name n))
name_part lo hi n l m =
    expr_layer (Expr-F.Name n) (e.Name n) (Expr-F.Name n) (e.rolls-Name n) (opens_expr (Expr-F.Name n)) (record {
      quiet = Some n.site;
      le = omega (arith, l, m);
      inside = (l, m);
      good = λ calls c k scope d st s. read_fresh (Used (Some n.site)) (Within lo hi) (Passing lo hi (Some n.site)) d n.site n.name scope st (l, m) (refl, refl) s;
    })

given_part : {m : Meaning} (lo hi : ℕ) (value : Scope → Value) → lo ≤ hi →
    ((calls : Calls) (k : ℕ) (scope : Scope) (st : Place) → m calls k scope st ≡ done st (given (value scope))) →
    Part lo hi m
given_part lo hi value l is =
    plain_part lo hi l (λ calls c k scope d st s. subst (λ r. Fresh nowhere (Within lo hi) (Within lo hi) d (moment st) r) (sym (is calls k scope st)) (done_fresh nowhere (Within lo hi) (Within lo hi) d st (given (value scope)) s tt tt))

pub number_part : (lo hi site n : ℕ) → lo ≤ site → site < hi → Part lo hi (expr (e.Number site n))
number_part lo hi site n l m =
    expr_layer (Expr-F.Number site n) (e.Number site n) (Expr-F.Number site n) (e.rolls-Number site n) (opens_expr (Expr-F.Number site n)) (plain_part lo hi (omega (arith, l, m)) (λ calls c k scope d st s.
    if_fresh (nat_le n most_safe) (done_fresh nowhere (Within lo hi) (Within lo hi) d st (given (int (pos n))) s tt tt) (leaves_fresh nowhere (Within lo hi) (Within lo hi) d site why.Size st (λ g. (l, m)) s)))

pub null_part : (lo hi site : ℕ) → lo ≤ hi → Part lo hi (expr (e.Null site))
null_part lo hi site l =
    expr_layer (Expr-F.Null site) (e.Null site) (Expr-F.Null site) (e.rolls-Null site) (opens_expr (Expr-F.Null site)) (given_part lo hi (λ scope. null) l (λ calls k scope st. refl))

pub true_part : (lo hi site : ℕ) → lo ≤ hi → Part lo hi (expr (e.True site))
true_part lo hi site l =
    expr_layer (Expr-F.True site) (e.True site) (Expr-F.True site) (e.rolls-True site) (opens_expr (Expr-F.True site)) (given_part lo hi (λ scope. truth true) l (λ calls k scope st. refl))

pub false_part : (lo hi site : ℕ) → lo ≤ hi → Part lo hi (expr (e.False site))
false_part lo hi site l =
    expr_layer (Expr-F.False site) (e.False site) (Expr-F.False site) (e.rolls-False site) (opens_expr (Expr-F.False site)) (given_part lo hi (λ scope. truth false) l (λ calls k scope st. refl))

pub this_part : (lo hi site : ℕ) → lo ≤ hi → Part lo hi (expr (e.This site))
this_part lo hi site l =
    expr_layer (Expr-F.This site) (e.This site) (Expr-F.This site) (e.rolls-This site) (opens_expr (Expr-F.This site)) (given_part lo hi (λ scope. scope.this) l (λ calls k scope st. refl))

pub text_part : (lo hi site : ℕ) (t : Text) → lo ≤ site → site < hi → Part lo hi (expr (e.Text site t))
text_part lo hi site t l m =
    expr_layer (Expr-F.Text site t) (e.Text site t) (Expr-F.Text site t) (e.rolls-Text site t) (opens_expr (Expr-F.Text site t)) (plain_part lo hi (omega (arith, l, m)) (λ calls c k scope d st s.
    if_fresh (nat_le (length t) text_limit) (done_fresh nowhere (Within lo hi) (Within lo hi) d st (given (text t)) s tt tt) (leaves_fresh nowhere (Within lo hi) (Within lo hi) d site why.Size st (λ g. (l, m)) s)))

head_within : (site a lo hi : ℕ) → lo ≤ site → site < a → a ≤ hi → Sub (Head site a hi) (Within lo hi)
head_within site a lo hi l m h n w (inl p) = (omega (arith, p, l), omega (arith, p, m, h))
head_within site a lo hi l m h n w (inr i) = (omega (arith, l, m, i.0), i.1)

pub array_part : (lo a hi site : ℕ) (es : List Expr) → lo ≤ site → site < a → EachIn meaning_of a hi (map with_expr es) →
    Part lo hi (expr (e.Array site es))
array_part lo a hi site es l m h =
    expr_layer (Expr-F.Array site es) (e.Array site es) (Expr-F.Array site (map with_expr es)) (e.rolls-Array site es) (opens_expr (Expr-F.Array site es)) (plain_part lo hi (omega (arith, l, m, le)) (λ calls c k scope d st s.
    new_fresh nowhere (Within lo hi) (Within lo hi) d site array st (elements meaning_of site (map with_expr es) calls k scope) (l, omega (arith, m, le)) tt s
    (λ o st s. fresh_wider nowhere (Within lo hi) (Within lo hi) (λ n w h. h) (head_within site a lo hi l m le) (within (omega (arith, l, m)) (omega arith)) (elements_fresh meaning_of site a hi (map with_expr es) calls c k scope o d st m h s))))
  where
    le : a ≤ hi
    le = each_le meaning_of a hi (map with_expr es) h

pub object_part : (lo a hi site : ℕ) (ms : List (Member Expr)) → lo ≤ site → site < a →
    MembersIn meaning_of a hi (map member_with ms) → Part lo hi (expr (e.Object site ms))
object_part lo a hi site ms l m h =
    expr_layer (Expr-F.Object site ms) (e.Object site ms) (Expr-F.Object site (map member_with ms)) (e.rolls-Object site ms) (object_opens site ms) (plain_part lo hi (omega (arith, l, m, le)) (λ calls c k scope d st s.
    new_fresh nowhere (Within lo hi) (Within lo hi) d site plain st (members meaning_of site (map member_with ms) calls k scope) (l, omega (arith, m, le)) tt s
    (λ o st s. fresh_wider nowhere (Within lo hi) (Within lo hi) (λ n w h. h) (head_within site a lo hi l m le) (within (omega (arith, l, m)) (omega arith)) (members_fresh meaning_of site a hi (map member_with ms) calls c k scope o d st m h s))))
  where
    le : a ≤ hi
    le = members_le meaning_of a hi (map member_with ms) h

-- ---- functions

spelt_trees : (body : List Stmt) → SpeltStatements body → SpeltStatements (trees_of (map with_stmt body))
spelt_trees body h = subst SpeltStatements (sym (trees_with body)) h

pub function_part : (lo hi site : ℕ) (name : Option Identifier) (parameters : List Identifier) (body : List Stmt) →
    lo ≤ site → site < hi → NameIn (Within lo hi) name → SpeltStatements body →
    Part lo hi (expr (e.FunctionExpression site name parameters body))
function_part lo hi site None parameters body l m n h =
    expr_layer (Expr-F.FunctionExpression site None parameters body) (e.FunctionExpression site None parameters body) (Expr-F.FunctionExpression site None parameters (map with_stmt body)) (e.rolls-FunctionExpression site None parameters body) (opens_expr (Expr-F.FunctionExpression site None parameters body)) (plain_part lo hi (omega (arith, l, m)) (λ calls c k scope d st s.
    expression_fresh (Within lo hi) (Within lo hi) d site None parameters (trees_of (map with_stmt body)) scope st (l, m) tt (spelt_trees body h) s))
function_part lo hi site (Some name) parameters body l m n h =
    expr_layer (Expr-F.FunctionExpression site (Some name) parameters body) (e.FunctionExpression site (Some name) parameters body) (Expr-F.FunctionExpression site (Some name) parameters (map with_stmt body)) (e.rolls-FunctionExpression site (Some name) parameters body) (opens_expr (Expr-F.FunctionExpression site (Some name) parameters body)) (plain_part lo hi (omega (arith, l, m)) (λ calls c k scope d st s.
    expression_fresh (Within lo hi) (Within lo hi) d site (Some name) parameters (trees_of (map with_stmt body)) scope st (l, m) n (spelt_trees body h) s))

pub arrow_part : (lo hi site : ℕ) (parameters : List Identifier) (value : Expr) → lo ≤ site → site < hi →
    SpeltExpression value → Part lo hi (expr (e.Arrow site parameters value))
arrow_part lo hi site parameters value l m h =
    expr_layer (Expr-F.Arrow site parameters value) (e.Arrow site parameters value) (Expr-F.Arrow site parameters (with_expr value)) (e.rolls-Arrow site parameters value) (opens_expr (Expr-F.Arrow site parameters value)) (plain_part lo hi (omega (arith, l, m)) (λ calls c k scope d st s.
    function_fresh nowhere (Within lo hi) (Within lo hi) d site (arrow_code parameters (expression value) scope) st (λ f st. done st (given f)) (l, m) h s (λ x st s. done_fresh nowhere (Within lo hi) (Within lo hi) d st (given x) s tt tt)))

pub arrow_block_part : (lo hi site : ℕ) (parameters : List Identifier) (body : List Stmt) → lo ≤ site → site < hi →
    SpeltStatements body → Part lo hi (expr (e.ArrowBlock site parameters body))
arrow_block_part lo hi site parameters body l m h =
    expr_layer (Expr-F.ArrowBlock site parameters body) (e.ArrowBlock site parameters body) (Expr-F.ArrowBlock site parameters (map with_stmt body)) (e.rolls-ArrowBlock site parameters body) (opens_expr (Expr-F.ArrowBlock site parameters body)) (plain_part lo hi (omega (arith, l, m)) (λ calls c k scope d st s.
    function_fresh nowhere (Within lo hi) (Within lo hi) d site (arrow_code parameters (statements (trees_of (map with_stmt body))) scope) st (λ f st. done st (given f)) (l, m) (spelt_trees body h) s (λ x st s. done_fresh nowhere (Within lo hi) (Within lo hi) d st (given x) s tt tt)))

-- ---- `new`

pub new_part : (lo a hi site : ℕ) (name : Identifier) (es : List Expr) → lo ≤ site → site < a → lo ≤ name.site →
    name.site < a → EachIn meaning_of a hi (map with_expr es) → Part lo hi (expr (e.New site name es))
new_part lo a hi site name es l m nl nm h =
    expr_layer (Expr-F.New site name es) (e.New site name es) (Expr-F.New site name (map with_expr es)) (e.rolls-New site name es) (opens_expr (Expr-F.New site name es)) (plain_part lo hi (omega (arith, l, m, le)) (λ calls c k scope d st s. found calls c k scope d (find_name scope name.name st) st s))
  where
    le : a ≤ hi
    le = each_le meaning_of a hi (map with_expr es) h

    all : Sub (Either (Within a hi) (only site)) (Within lo hi)
    all n w (inl i) = (omega (arith, l, m, i.0), i.1)
    all n w (inr p) = (omega (arith, p, l), omega (arith, p, m, le))

    other : (d : ℕ) (f : Found) (st : Place) → Stands d st → Fresh nowhere (Within lo hi) (Within lo hi) d (moment st) (bind (read_found name.site name.name f st) (on_value (λ x st. leaves site why.New st)))
    other d f st s =
        value_bind nowhere nowhere nowhere (Within lo hi) (Within lo hi) (read_found name.site name.name f st) (λ x st. leaves site why.New st)
        at at (λ n w h. absurd h) (λ n w h. absurd h) (λ n w h. absurd h) (λ n w h g. h) (λ n w h g. h) (found_fresh (only name.site) (only name.site) nowhere d name.site name.name f st refl refl s)
        (λ x st s. leaves_fresh nowhere nowhere nowhere d site why.New st (λ g. absurd g) s)
      where
        at : Sub (only name.site) (Within lo hi)
        at n w p = (omega (arith, p, nl), omega (arith, p, nm, le))

    found : (calls : Calls) → CallsFresh calls → (k : ℕ) (scope : Scope) (d : ℕ) (f : Found) → Steps nowhere (Within lo hi) (Within lo hi) d (new_found meaning_of site name (map with_expr es) calls k scope f)
    found calls c k scope d listed st s =
        if_fresh (among name.name error_names)
        (fresh_wider nowhere (Within lo hi) (Within lo hi) (λ n w h. h) all all (gather_fresh meaning_of a hi (map with_expr es) nowhere (only site) (only site) calls c k scope [] (construct site name.name) d st h (λ n w i p. omega (arith, i.0, p, m)) s (λ xs st s. construct_fresh d site name.name xs st s)))
        (leaves_fresh nowhere (Within lo hi) (Within lo hi) d site why.New st (λ g. absurd g) s)
    found calls c k scope d (bound i) st s = other d (bound i) st s
    found calls c k scope d (supplied x) st s = other d (supplied x) st s
    found calls c k scope d missing st s = other d missing st s

-- ---- chains

pub call_part : (lo mid hi : ℕ) (first : Expr) (ss : List (Suffix Expr)) → Part lo mid (expr first) →
    SuffixesIn meaning_of mid hi (map suffix_with ss) → Part lo hi (expr (call_of first ss))
call_part lo mid hi first [] p h = part_wider lo hi (omega arith) h p
call_part lo mid hi first (x ∷ xs) p h =
    expr_layer (Expr-F.Call first ss) (e.Call first ss) (Expr-F.Call (with_expr first) (map suffix_with ss)) (e.rolls-Call first ss) (call_opens first ss) (record {
      quiet = q;
      le = omega (arith, p.le, le);
      inside = quiet_inside meaning_of lo mid hi p.quiet (map suffix_with ss) p.le p.inside h;
      good = λ calls c k scope d st s. reference_bind (Used q) (Either (Used p.quiet) (Within mid hi)) (Passing mid hi q) (Within lo hi) (Passing lo hi q) (expr first calls k scope st) (chain meaning_of (map suffix_with ss) calls k scope)
          (within (omega arith) le) later front (λ n w i. (within p.le (omega arith) n w i.0, i.1)) off (p.good calls c k scope d st s)
          (λ r u st s. chain_fresh meaning_of mid hi (map suffix_with ss) p.quiet calls c k scope r d st u h s);
    })
  where
    ss : List (Suffix Expr)
    ss = x ∷ xs

    q : Option ℕ
    q = quiet_behind p.quiet (map suffix_with ss)

    le : mid ≤ hi
    le = suffixes_le meaning_of mid hi (map suffix_with ss) h

    later : Sub (Either (Used p.quiet) (Within mid hi)) (Within lo hi)
    later n w (inl u) = within (omega arith) le n w (used_within lo mid p.quiet p.inside n w u)
    later n w (inr i) = within p.le (omega arith) n w i

    not_used : (n : ℕ) (w : Why) → Passing lo mid p.quiet n w → Used p.quiet n w ⊎ Within mid hi n w → ⊥
    not_used n w i (inl u) = i.1 u
    not_used n w i (inr j) = omega (arith, i.0.1, j.0)

    front : Sub (Passing lo mid p.quiet) (Passing lo hi q)
    front n w i = (within (omega arith) le n w i.0, λ u. not_used n w i (quiet_later meaning_of mid hi p.quiet (map suffix_with ss) h n w u))

    off : Off (Passing lo mid p.quiet) (Either (Used p.quiet) (Within mid hi))
    off n w i j = not_used n w i j

pub binary_part : (lo mid hi : ℕ) (first : Expr) (ls : List (Link BinaryOp Expr)) → Part lo mid (expr first) →
    LinksIn meaning_of mid hi (map link_with ls) → Part lo hi (expr (binary_of first ls))
binary_part lo mid hi first [] p h = part_wider lo hi (omega arith) h p
binary_part lo mid hi first (x ∷ xs) p h =
    expr_layer (Expr-F.Binary first ls) (e.Binary first ls) (Expr-F.Binary (with_expr first) (map link_with ls)) (e.rolls-Binary first ls) (binary_opens first ls) (plain_part lo hi (omega (arith, p.le, le)) (λ calls c k scope d st s.
    part_value p nowhere (Within mid hi) (Within mid hi) (Within lo hi) (Within lo hi) calls c k scope d st (links meaning_of (map link_with ls) calls k scope)
    (within (omega arith) le) (within p.le (omega arith)) (within (omega arith) le) (within p.le (omega arith)) (λ n w i j. omega (arith, i.1, j.0)) s
    (λ y st s. links_fresh meaning_of mid hi (map link_with ls) calls c k scope y d st h s)))
  where
    ls : List (Link BinaryOp Expr)
    ls = x ∷ xs

    le : mid ≤ hi
    le = links_le meaning_of mid hi (map link_with ls) h

pub logical_part : (lo mid hi : ℕ) (first : Expr) (ls : List (Link LogicalOp Expr)) → Part lo mid (expr first) →
    LinksIn meaning_of mid hi (map link_with ls) → Part lo hi (expr (logical_of first ls))
logical_part lo mid hi first [] p h = part_wider lo hi (omega arith) h p
logical_part lo mid hi first (x ∷ xs) p h =
    expr_layer (Expr-F.Logical first ls) (e.Logical first ls) (Expr-F.Logical (with_expr first) (map link_with ls)) (e.rolls-Logical first ls) (logical_opens first ls) (plain_part lo hi (omega (arith, p.le, le)) (λ calls c k scope d st s.
    part_value p nowhere (Within mid hi) (Within mid hi) (Within lo hi) (Within lo hi) calls c k scope d st (logical_links meaning_of (map link_with ls) calls k scope)
    (within (omega arith) le) (within p.le (omega arith)) (within (omega arith) le) (within p.le (omega arith)) (λ n w i j. omega (arith, i.1, j.0)) s
    (λ y st s. logical_fresh meaning_of mid hi (map link_with ls) calls c k scope y d st h s)))
  where
    ls : List (Link LogicalOp Expr)
    ls = x ∷ xs

    le : mid ≤ hi
    le = links_le meaning_of mid hi (map link_with ls) h

-- ---- operators of one, two and three parts

pub unary_part : (lo hi site : ℕ) (o : UnaryOp) (x : Expr) → lo ≤ site → Part (suc site) hi (expr x) →
    Part lo hi (expr (e.Unary site o x))
unary_part lo hi site o x l p =
    expr_layer (Expr-F.Unary site o x) (e.Unary site o x) (Expr-F.Unary site o (with_expr x)) (e.rolls-Unary site o x) (opens_expr (Expr-F.Unary site o x)) (plain_part lo hi (omega (arith, l, p.le)) (λ calls c k scope d st s.
    part_value p nowhere (only site) (only site) (Within lo hi) (Within lo hi) calls c k scope d st (λ x st. play (unary_row o site x st.objects) st)
    (within (omega (arith, l)) (omega arith)) at (within (omega (arith, l)) (omega arith)) at (λ n w i j. omega (arith, i.0, j)) s
    (λ y st s. row_alone (only site) (only site) d (unary_row o site y st.objects) st s (apart_fits (only site) (unary_row o site y st.objects) (unary_apart o site y st.objects)) (unary_value o site y st.objects))))
  where
    at : Sub (only site) (Within lo hi)
    at n w i = (omega (arith, i, l), omega (arith, i, p.le))

chosen_fresh : (lo mid hi : ℕ) (a b : Expr) → Part lo mid (expr a) → Part mid hi (expr b) → (calls : Calls) →
    CallsFresh calls → (k : ℕ) (scope : Scope) (d : ℕ) (holds : Bool) →
    Steps nowhere (Within lo hi) (Within lo hi) d (λ st. bind (chosen holds (expr a) (expr b) calls k scope st) its_value)
chosen_fresh lo mid hi a b p q calls c k scope d true st s =
    part_value p nowhere nowhere nowhere (Within lo hi) (Within lo hi) calls c k scope d st (λ value st. done st (given value))
    (within (omega arith) q.le) (λ n w h. absurd h) (within (omega arith) q.le) (λ n w h. absurd h) (λ n w h g. g) s (λ x st s. done_fresh nowhere nowhere nowhere d st (given x) s tt tt)
chosen_fresh lo mid hi a b p q calls c k scope d false st s =
    part_value q nowhere nowhere nowhere (Within lo hi) (Within lo hi) calls c k scope d st (λ value st. done st (given value))
    (within p.le (omega arith)) (λ n w h. absurd h) (within p.le (omega arith)) (λ n w h. absurd h) (λ n w h g. g) s (λ x st s. done_fresh nowhere nowhere nowhere d st (given x) s tt tt)

pub conditional_part : (t0 a0 b0 hi start site : ℕ) (test a b : Expr) → Part t0 a0 (expr test) → Part a0 b0 (expr a) →
    Part b0 hi (expr b) → Part t0 hi (expr (e.Conditional start site test a b))
conditional_part t0 a0 b0 hi start site test a b p q r =
    expr_layer (Expr-F.Conditional start site test a b) (e.Conditional start site test a b) (Expr-F.Conditional start site (with_expr test) (with_expr a) (with_expr b)) (e.rolls-Conditional start site test a b) (opens_expr (Expr-F.Conditional start site test a b)) (plain_part t0 hi (omega (arith, p.le, q.le, r.le)) (λ calls c k scope d st s.
    part_value p nowhere (Within a0 hi) (Within a0 hi) (Within t0 hi) (Within t0 hi) calls c k scope d st (λ x st. branch site x st (λ holds st. bind (chosen holds (expr a) (expr b) calls k scope st) its_value))
    (within (omega arith) (omega (arith, q.le, r.le))) (within p.le (omega arith)) (within (omega arith) (omega (arith, q.le, r.le))) (within p.le (omega arith)) (λ n w i j. omega (arith, i.1, j.0)) s
    (λ x st s. branch_fresh nowhere (Within a0 hi) (Within a0 hi) d site x st (λ holds st. bind (chosen holds (expr a) (expr b) calls k scope st) its_value) s (chosen_fresh a0 b0 hi a b q r calls c k scope d))))

-- ---- assignment and steps

pub assign_layer : (lo mark hi start : ℕ) (o : Option BinaryOp) (t : Target Expr) (value : Expr) →
    TargetIn meaning_of lo mark (target_with t) → Part (suc mark) hi (expr value) →
    Part lo hi (expr (e.Assign start mark o t value))
assign_layer lo mark hi start o t value h p =
    expr_layer (Expr-F.Assign start mark o t value) (e.Assign start mark o t value) (Expr-F.Assign start mark o (target_with t) (with_expr value)) (e.rolls-Assign start mark o t value) (assign_opens start mark o t value)
    (assign_part meaning_of lo mark hi (target_with t) o (expr value) h p (λ calls k scope st. refl))

pub step_layer : (a b lo hi start site : ℕ) (o : StepOp) (is_prefix : Bool) (t : Target Expr) →
    TargetIn meaning_of a b (target_with t) → lo ≤ a → b ≤ hi → lo ≤ site → site < hi → (site < a) ⊎ (b ≤ site) →
    Part lo hi (expr (e.Step start site o is_prefix t))
step_layer a b lo hi start site o is_prefix t h la bh l m apart =
    expr_layer (Expr-F.Step start site o is_prefix t) (e.Step start site o is_prefix t) (Expr-F.Step start site o is_prefix (target_with t)) (e.rolls-Step start site o is_prefix t) (step_opens start site o is_prefix t)
    (step_part meaning_of a b lo site hi (target_with t) o is_prefix h la bh l m apart (λ calls k scope st. refl))
