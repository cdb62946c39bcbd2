-- Parts between two places stand between places further apart, too.
use Rattle.std.proofs.Common.{ℕ, suc, ◌≤◌, List, [], ◌∷◌, Option, Some, None, arith}
use Rattle.js_ast.specs.declared.expression.Expr.{Expr}
use Rattle.js_ast.specs.declared.statement.Stmt.{Stmt, out-Stmt}
use Rattle.js_ast.specs.declared.parts.Access.{Access}
use Rattle.js_ast.specs.declared.parts.Access.TheVariants as access
use Rattle.js_ast.specs.declared.parts.Target.{Target}
use Rattle.js_ast.specs.declared.parts.Target.TheVariants as target
use Rattle.js_ast.specs.declared.parts.Member.{Member}
use Rattle.js_ast.specs.declared.parts.Declarator.{Declarator}
use Rattle.js_meaning.specs.Parts.{Meaning}
use Rattle.js_meaning.specs.Blocks.{declared_by, names_of}
use Rattle.js_meaning.specs.Meaning.{stmts}
use Rattle.js_ends.proofs.Binds.{Within}
use Rattle.js_ends.proofs.Lists.{within, part_wider, EachIn, MembersIn}
use Rattle.js_ends.proofs.Chains.{AccessIn}
use Rattle.js_ends.proofs.Aims.{TargetIn}
use Rattle.js_ends.proofs.Blocks.{doing_wider, names_wider, names_more, function_wider, functions_wider, DoingsIn, Doings, DeclaratorsIn}
use Rattle.js_ends.proofs.Rounds.{OptionIn}
use Rattle.js_ends.proofs.Statements.{StmtIn}

pub each_lower : {E : Type 0} (run : E → Meaning) (low lo hi : ℕ) (es : List E) → low ≤ lo → EachIn run lo hi es →
    EachIn run low hi es
each_lower run low lo hi [] l h = omega (arith, l, h)
each_lower run low lo hi (e ∷ es) l (mid, p, h) = (mid, part_wider low mid l (omega arith) p, h)

pub members_lower : {E : Type 0} (run : E → Meaning) (low lo hi : ℕ) (ms : List (Member E)) → low ≤ lo →
    MembersIn run lo hi ms → MembersIn run low hi ms
members_lower run low lo hi [] l h = omega (arith, l, h)
members_lower run low lo hi (m ∷ ms) l (mid, p, h) = (mid, part_wider low mid l (omega arith) p, h)

pub declarators_lower : {E : Type 0} (run : E → Meaning) (low lo hi : ℕ) (ds : List (Declarator E)) → low ≤ lo →
    DeclaratorsIn run lo hi ds → DeclaratorsIn run low hi ds
declarators_lower run low lo hi [] l h = omega (arith, l, h)
declarators_lower run low lo hi (x ∷ ds) l (mid, at, i, h) = (mid, omega (arith, l, at), i, h)

pub option_lower : (low lo hi : ℕ) (o : Option (Expr × Meaning)) → low ≤ lo → OptionIn lo hi o → OptionIn low hi o
option_lower low lo hi None l h = omega (arith, l, h)
option_lower low lo hi (Some e) l h = part_wider low hi l (omega arith) h

access_wider : {E : Type 0} (run : E → Meaning) (lo hi high : ℕ) (a : Access E) → hi ≤ high → AccessIn run lo hi a →
    AccessIn run lo high a
access_wider run lo hi high (access.Property site name) l h = (h.0, omega (arith, h.1, l))
access_wider run lo hi high (access.Index site is_static e) l h =
    (h.0, part_wider (suc site) high (omega arith) l h.1)

pub target_wider : {E : Type 0} (run : E → Meaning) (lo hi low high : ℕ) (t : Target E) → low ≤ lo → hi ≤ high →
    TargetIn run lo hi t → TargetIn run low high t
target_wider run lo hi low high (target.Name name) l m h = (omega (arith, l, h.0), omega (arith, h.1, m))
target_wider run lo hi low high (target.Access base a) l m (mid, p, i) =
    (mid, part_wider low mid l (omega arith) p, access_wider run mid hi high a m i)

doings_upper : (lo hi high : ℕ) (ms : List Meaning) → hi ≤ high → DoingsIn lo hi ms → DoingsIn lo high ms
doings_upper lo hi high [] m h = omega (arith, h, m)
doings_upper lo hi high (x ∷ ms) m (mid, p, h) = (mid, p, doings_upper mid hi high ms m h)

doings_lower : (low lo hi : ℕ) (ms : List Meaning) → low ≤ lo → DoingsIn lo hi ms → DoingsIn low hi ms
doings_lower low lo hi [] l h = omega (arith, l, h)
doings_lower low lo hi (x ∷ ms) l (mid, p, h) = (mid, doing_wider low mid l (omega arith) p, h)

pub doings_wider : (lo hi low high : ℕ) (ss : List Stmt) (ms : List Meaning) → low ≤ lo → hi ≤ high → Doings lo hi ss ms →
    Doings low high ss ms
doings_wider lo hi low high ss ms l m h =
    record { names = names_wider (Within lo hi) (Within low high) (names_of ss) (within l m) h.names; functions = functions_wider (Within lo hi) (Within low high) ss (within l m) h.functions; all = doings_lower low lo high ms l (doings_upper lo hi high ms m h.all) }

pub stmt_wider : (lo hi low high : ℕ) (x : Stmt) → low ≤ lo → hi ≤ high → StmtIn lo hi x → StmtIn low high x
stmt_wider lo hi low high x l m h =
    record { doing = doing_wider low high l m h.doing; names = names_wider (Within lo hi) (Within low high) (declared_by (out-Stmt x)) (within l m) h.names; function = function_wider (Within lo hi) (Within low high) (out-Stmt x) (within l m) h.function }

pub no_stmts : (lo hi : ℕ) → lo ≤ hi → Doings lo hi [] (stmts [])
unfolding stmts
no_stmts lo hi l = record { names = tt; functions = tt; all = l }

pub more_stmts : (lo mid hi : ℕ) (x : Stmt) (ss : List Stmt) → lo ≤ mid → mid ≤ hi → StmtIn lo mid x →
    Doings mid hi ss (stmts ss) → Doings lo hi (x ∷ ss) (stmts (x ∷ ss))
unfolding stmts
more_stmts lo mid hi x ss l m p h =
    record {
      names = names_more (Within lo hi) (declared_by (out-Stmt x)) (names_of ss) (names_wider (Within lo mid) (Within lo hi) (declared_by (out-Stmt x)) (within (omega arith) m) p.names) (names_wider (Within mid hi) (Within lo hi) (names_of ss) (within l (omega arith)) h.names);
      functions = (function_wider (Within lo mid) (Within lo hi) (out-Stmt x) (within (omega arith) m) p.function, functions_wider (Within mid hi) (Within lo hi) ss (within l (omega arith)) h.functions);
      all = (mid, p.doing, h.all);
    }
