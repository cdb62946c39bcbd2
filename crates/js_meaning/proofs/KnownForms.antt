-- Trees of branches, loops and `try` for examples, each beside what it does.
use Rattle.std.proofs.Common.{◌≡◌, ℕ, List, [], ◌∷◌, map, Option, Some, None, refl, ap, ◌∙◌}
use Rattle.std.specs.Option.{option_map}
use Rattle.js_ast.specs.declared.operators.DeclarationKind.{DeclarationKind}
use Rattle.js_ast.specs.declared.parts.Identifier.{Identifier}
use Rattle.js_ast.specs.declared.parts.Declarator.{Declarator}
use Rattle.js_ast.specs.declared.parts.LoopHead.{LoopHead}
use Rattle.js_ast.specs.declared.parts.LoopHead.TheVariants as head
use Rattle.js_ast.specs.declared.parts.Catch.{Catch}
use Rattle.js_ast.specs.declared.expression.Expr.{Expr}
use Rattle.js_ast.specs.declared.expression.Expr.TheOpen.{Stmt-F, Arm-F}
use Rattle.js_ast.specs.declared.statement.Stmt.{Stmt, roll-Stmt, map-Stmt}
use Rattle.js_ast.specs.declared.statement.Arm.{Arm, roll-Arm}
use Rattle.js_meaning.specs.Values.{Scope, Place}
use Rattle.js_meaning.specs.Running.{Outcome, Completion, given, refers, normal, breaks, continues, returns, throws, stops, done, bind, count}
use Rattle.js_meaning.specs.Builtins.{Calls}
use Rattle.js_meaning.specs.Parts.{Meaning}
use Rattle.js_meaning.specs.Loops.{kept, open_catch}
use Rattle.js_meaning.specs.Meaning.{Arms, of_stmt, of_arm, stmt, arm, block_of, caught, finished}
use Rattle.js_meaning.proofs.Opens.{with_expr, with_stmt, with_arm, opens_stmt, opens_arm}
use Rattle.js_meaning.proofs.Known.{Known, pair, same}
use Rattle.js_meaning.proofs.KnownStatements.{KnownStmt, stmt_tree, stmt_pair, same_stmt, stmt_trees, known_block, block_known, KnownDeclarator, declarator_with, declarator_trees, declarator_pairs, same_value, same_declarators}

-- ---- `if`

pub record KnownArm : Type 0 where
  pub tree : Arm
  pub does : Arms
  pub is : arm tree ≡ does

abbrev pub arm_layer : {E S A : Type 0} → ℕ → E → S → Arm-F E S A
arm_layer site test consequent = record { site = site; test = test; consequent = consequent }

abbrev pub when : ℕ → Known → KnownStmt → KnownArm
when site k s = record {
  tree = roll-Arm (arm_layer site k.tree (stmt_tree s));
  does = of_arm (arm_layer site (pair k) (stmt_pair s));
  is = opens_arm (arm_layer site k.tree (stmt_tree s))
      ∙ ap {B = Arms} (λ p. of_arm (arm_layer site p (with_stmt (stmt_tree s)))) (same k)
      ∙ ap {B = Arms} (λ p. of_arm (arm_layer site (pair k) p)) (same_stmt s);
}

abbrev pub arm_trees : List KnownArm → List Arm
arm_trees [] = []
arm_trees (a ∷ arms) = a.tree ∷ arm_trees arms

abbrev pub arm_pairs : List KnownArm → List (Arm × Arms)
arm_pairs [] = []
arm_pairs (a ∷ arms) = (a.tree, a.does) ∷ arm_pairs arms

pub same_arms : (arms : List KnownArm) → map with_arm (arm_trees arms) ≡ arm_pairs arms
same_arms [] = refl
same_arms (a ∷ arms) =
    ap {B = List (Arm × Arms)} (λ m. (a.tree, m) ∷ map with_arm (arm_trees arms)) a.is
    ∙ ap {B = List (Arm × Arms)} (λ ps. (a.tree, a.does) ∷ ps) (same_arms arms)

abbrev pub if_ : List KnownArm → KnownStmt
if_ arms = record {
  layer = Stmt-F.If (arm_trees arms) None;
  does = of_stmt (Stmt-F.If (arm_pairs arms) None);
  is = opens_stmt (Stmt-F.If (arm_trees arms) None)
      ∙ ap {B = Meaning} (λ ps. of_stmt (Stmt-F.If ps None)) (same_arms arms);
}

abbrev pub if_else : List KnownArm → KnownStmt → KnownStmt
if_else arms s = record {
  layer = Stmt-F.If (arm_trees arms) (Some (stmt_tree s));
  does = of_stmt (Stmt-F.If (arm_pairs arms) (Some (stmt_pair s)));
  is = opens_stmt (Stmt-F.If (arm_trees arms) (Some (stmt_tree s)))
      ∙ ap {B = Meaning} (λ ps. of_stmt (Stmt-F.If ps (Some (with_stmt (stmt_tree s))))) (same_arms arms)
      ∙ ap {B = Meaning} (λ p. of_stmt (Stmt-F.If (arm_pairs arms) (Some p))) (same_stmt s);
}

-- ---- loops

abbrev pub while_ : ℕ → Known → KnownStmt → KnownStmt
while_ site k s = record {
  layer = Stmt-F.While site k.tree (stmt_tree s);
  does = of_stmt (Stmt-F.While site (pair k) (stmt_pair s));
  is = opens_stmt (Stmt-F.While site k.tree (stmt_tree s))
      ∙ ap {B = Meaning} (λ p. of_stmt (Stmt-F.While site p (with_stmt (stmt_tree s)))) (same k)
      ∙ ap {B = Meaning} (λ p. of_stmt (Stmt-F.While site (pair k) p)) (same_stmt s);
}

abbrev pub do_ : ℕ → KnownStmt → ℕ → Known → KnownStmt
do_ site s at k = record {
  layer = Stmt-F.Do site (stmt_tree s) at k.tree;
  does = of_stmt (Stmt-F.Do site (stmt_pair s) at (pair k));
  is = opens_stmt (Stmt-F.Do site (stmt_tree s) at k.tree)
      ∙ ap {B = Meaning} (λ p. of_stmt (Stmt-F.Do site p at (with_expr k.tree))) (same_stmt s)
      ∙ ap {B = Meaning} (λ p. of_stmt (Stmt-F.Do site (stmt_pair s) at p)) (same k);
}

abbrev pub for_of_ : ℕ → DeclarationKind → Identifier → Known → KnownStmt → KnownStmt
for_of_ site kind name k s = record {
  layer = Stmt-F.ForOf site kind name k.tree (stmt_tree s);
  does = of_stmt (Stmt-F.ForOf site kind name (pair k) (stmt_pair s));
  is = opens_stmt (Stmt-F.ForOf site kind name k.tree (stmt_tree s))
      ∙ ap {B = Meaning} (λ p. of_stmt (Stmt-F.ForOf site kind name p (with_stmt (stmt_tree s)))) (same k)
      ∙ ap {B = Meaning} (λ p. of_stmt (Stmt-F.ForOf site kind name (pair k) p)) (same_stmt s);
}

-- what stands first in the head of a `for`
pub data KnownHead : Type 0 where
  no_head : KnownHead
  value_head : Known → KnownHead
  declare_head : DeclarationKind → List KnownDeclarator → KnownHead

abbrev pub head_tree : KnownHead → LoopHead Expr
head_tree no_head = head.Nothing
head_tree (value_head k) = head.Value k.tree
head_tree (declare_head kind ds) = head.Declare kind (declarator_trees ds)

abbrev pub head_pair : KnownHead → LoopHead (Expr × Meaning)
head_pair no_head = head.Nothing
head_pair (value_head k) = head.Value (pair k)
head_pair (declare_head kind ds) = head.Declare kind (declarator_pairs ds)

abbrev pub head_with : LoopHead Expr → LoopHead (Expr × Meaning)
head_with head.Nothing = head.Nothing
head_with (head.Value e) = head.Value (with_expr e)
head_with (head.Declare kind ds) = head.Declare kind (map declarator_with ds)

same_head : (h : KnownHead) → head_with (head_tree h) ≡ head_pair h
same_head no_head = refl
same_head (value_head k) = ap {B = LoopHead (Expr × Meaning)} (λ p. head.Value p) (same k)
same_head (declare_head kind ds) = ap {B = LoopHead (Expr × Meaning)} (λ ts. head.Declare kind ts) (same_declarators ds)

abbrev pub for_layer : ℕ → LoopHead Expr → Option Expr → Option Expr → Stmt →
    Stmt-F (Expr × Meaning) (Stmt × Meaning) (Arm × Arms)
for_layer site h t u s =
    map-Stmt Expr Stmt Arm (Expr × Meaning) (Stmt × Meaning) (Arm × Arms) with_expr with_stmt with_arm (Stmt-F.For site h t u s)

declared_in : {E S A : Type 0} → Stmt-F E S A → List (Declarator E)
declared_in (Stmt-F.For site (head.Declare kind ds) t u s) = ds
declared_in _ = []

declared_first : (site : ℕ) (kind : DeclarationKind) (name : Identifier) (value : Option Expr) (ds : List (Declarator Expr)) (t u : Option Expr) (s : Stmt) → declared_in (for_layer site (head.Declare kind (record { name = name; value = value } ∷ ds)) t u s) ≡ record { name = name; value = option_map with_expr value } ∷ declared_in (for_layer site (head.Declare kind ds) t u s)
unfolding declared_in
declared_first site kind name None ds t u s = refl
declared_first site kind name (Some e) ds t u s = refl

declared_map : (site : ℕ) (kind : DeclarationKind) (ds : List (Declarator Expr)) (t u : Option Expr) (s : Stmt) →
    declared_in (for_layer site (head.Declare kind ds) t u s) ≡ map declarator_with ds
unfolding declared_in
declared_map site kind [] t u s = refl
declared_map site kind (d ∷ ds) t u s =
    declared_first site kind d.name d.value ds t u s
    ∙ ap (λ ts. declarator_with d ∷ ts) (declared_map site kind ds t u s)

pub for_opens : (site : ℕ) (h : LoopHead Expr) (t u : Option Expr) (s : Stmt) →
    stmt (roll-Stmt (Stmt-F.For site h t u s)) ≡ of_stmt (Stmt-F.For site (head_with h) (option_map with_expr t) (option_map with_expr u) (with_stmt s))
unfolding declared_in
for_opens site head.Nothing None None s = opens_stmt (Stmt-F.For site head.Nothing None None s)
for_opens site head.Nothing None (Some u) s = opens_stmt (Stmt-F.For site head.Nothing None (Some u) s)
for_opens site head.Nothing (Some t) None s = opens_stmt (Stmt-F.For site head.Nothing (Some t) None s)
for_opens site head.Nothing (Some t) (Some u) s = opens_stmt (Stmt-F.For site head.Nothing (Some t) (Some u) s)
for_opens site (head.Value e) None None s = opens_stmt (Stmt-F.For site (head.Value e) None None s)
for_opens site (head.Value e) None (Some u) s = opens_stmt (Stmt-F.For site (head.Value e) None (Some u) s)
for_opens site (head.Value e) (Some t) None s = opens_stmt (Stmt-F.For site (head.Value e) (Some t) None s)
for_opens site (head.Value e) (Some t) (Some u) s = opens_stmt (Stmt-F.For site (head.Value e) (Some t) (Some u) s)
for_opens site (head.Declare kind ds) None None s =
    opens_stmt (Stmt-F.For site (head.Declare kind ds) None None s)
    ∙ ap {B = Meaning} (λ ts. of_stmt (Stmt-F.For site (head.Declare kind ts) None None
    (with_stmt s))) (declared_map site kind ds None None s)
for_opens site (head.Declare kind ds) None (Some u) s =
    opens_stmt (Stmt-F.For site (head.Declare kind ds) None (Some u) s)
    ∙ ap {B = Meaning} (λ ts. of_stmt (Stmt-F.For site (head.Declare kind ts) None (Some (with_expr u))
    (with_stmt s))) (declared_map site kind ds None (Some u) s)
for_opens site (head.Declare kind ds) (Some t) None s =
    opens_stmt (Stmt-F.For site (head.Declare kind ds) (Some t) None s)
    ∙ ap {B = Meaning} (λ ts. of_stmt (Stmt-F.For site (head.Declare kind ts) (Some (with_expr t)) None
    (with_stmt s))) (declared_map site kind ds (Some t) None s)
for_opens site (head.Declare kind ds) (Some t) (Some u) s =
    opens_stmt (Stmt-F.For site (head.Declare kind ds) (Some t) (Some u) s)
    ∙ ap {B = Meaning} (λ ts. of_stmt (Stmt-F.For site (head.Declare kind ts) (Some (with_expr t)) (Some
    (with_expr u)) (with_stmt s))) (declared_map site kind ds (Some t) (Some u) s)

abbrev pub tree_in : Option Known → Option Expr
tree_in o = option_map (λ (k : Known). k.tree) o

pub for_is : (site : ℕ) (h : KnownHead) (t u : Option Known) (s : KnownStmt) →
    stmt (roll-Stmt (Stmt-F.For site (head_tree h) (tree_in t) (tree_in u) (stmt_tree s))) ≡ of_stmt (Stmt-F.For site (head_pair h) (option_map pair t) (option_map pair u) (stmt_pair s))
for_is site h t u s = for_opens site (head_tree h) (tree_in t) (tree_in u) (stmt_tree s)
    ∙ ap {B = Meaning} (λ x. of_stmt (Stmt-F.For site x (option_map with_expr (tree_in t)) (option_map with_expr (tree_in u)) (with_stmt (stmt_tree s)))) (same_head h)
    ∙ ap {B = Meaning} (λ x. of_stmt (Stmt-F.For site (head_pair h) x (option_map with_expr (tree_in u))
    (with_stmt (stmt_tree s)))) (same_value t)
    ∙ ap {B = Meaning} (λ x. of_stmt (Stmt-F.For site (head_pair h) (option_map pair t) x
    (with_stmt (stmt_tree s)))) (same_value u)
    ∙ ap {B = Meaning} (λ x. of_stmt (Stmt-F.For site (head_pair h) (option_map pair t) (option_map pair u) x)) (same_stmt s)

abbrev pub for_ : ℕ → KnownHead → Option Known → Option Known → KnownStmt → KnownStmt
for_ site h t u s =
    record { layer = Stmt-F.For site (head_tree h) (tree_in t) (tree_in u) (stmt_tree s); does = of_stmt (Stmt-F.For site (head_pair h) (option_map pair t) (option_map pair u) (stmt_pair s)); is = for_is site h t u s }

-- ---- `try`

abbrev pub Handler : Type 0
Handler = Calls → ℕ → Scope → Place → Completion → Outcome

abbrev pub KnownCatch : Type 0
KnownCatch = Option Identifier × List KnownStmt

abbrev pub known_caught : Option KnownCatch → Handler
known_caught (Some c) calls k scope st (throws site x) = open_catch c.0 x scope st (known_block c.1 calls k)
known_caught _ calls k scope st c = done st c

abbrev pub known_finished : Option (List KnownStmt) → Handler
known_finished finally calls k scope st (stops end) = done st (stops end)
known_finished None calls k scope st c = done st c
known_finished (Some ks) calls k scope st c = bind (known_block ks calls k scope st) (kept c)

abbrev pub catch_tree : KnownCatch → Catch (List Stmt)
catch_tree c = record { name = c.0; body = stmt_trees c.1 }

abbrev pub catch_with : Catch (List Stmt) → Catch (List (Stmt × Meaning))
catch_with c = record { name = c.name; body = map with_stmt c.body }

caught_at : (o : Option KnownCatch) (calls : Calls) (k : ℕ) (scope : Scope) (st : Place) (c : Completion) →
    caught (option_map catch_with (option_map catch_tree o)) calls k scope st c ≡ known_caught o calls k scope st c
caught_at None calls k scope st c = refl
caught_at (Some h) calls k scope st (throws site x) =
    ap (λ (m : Meaning). open_catch h.0 x scope st (m calls k)) (block_known h.1)
caught_at (Some h) calls k scope st (given x) = refl
caught_at (Some h) calls k scope st (refers r) = refl
caught_at (Some h) calls k scope st normal = refl
caught_at (Some h) calls k scope st breaks = refl
caught_at (Some h) calls k scope st continues = refl
caught_at (Some h) calls k scope st (returns x) = refl
caught_at (Some h) calls k scope st (stops end) = refl

finished_at : (o : Option (List KnownStmt)) (calls : Calls) (k : ℕ) (scope : Scope) (st : Place) (c : Completion) →
    finished (option_map (map with_stmt) (option_map stmt_trees o)) calls k scope st c ≡ known_finished o calls k scope st c
finished_at None calls k scope st (throws site x) = refl
finished_at None calls k scope st (given x) = refl
finished_at None calls k scope st (refers r) = refl
finished_at None calls k scope st normal = refl
finished_at None calls k scope st breaks = refl
finished_at None calls k scope st continues = refl
finished_at None calls k scope st (returns x) = refl
finished_at None calls k scope st (stops end) = refl
finished_at (Some ks) calls k scope st (throws site x) =
    ap (λ (m : Meaning). bind (m calls k scope st) (kept (throws site x))) (block_known ks)
finished_at (Some ks) calls k scope st (given x) =
    ap (λ (m : Meaning). bind (m calls k scope st) (kept (given x))) (block_known ks)
finished_at (Some ks) calls k scope st (refers r) =
    ap (λ (m : Meaning). bind (m calls k scope st) (kept (refers r))) (block_known ks)
finished_at (Some ks) calls k scope st normal =
    ap (λ (m : Meaning). bind (m calls k scope st) (kept normal)) (block_known ks)
finished_at (Some ks) calls k scope st breaks =
    ap (λ (m : Meaning). bind (m calls k scope st) (kept breaks)) (block_known ks)
finished_at (Some ks) calls k scope st continues =
    ap (λ (m : Meaning). bind (m calls k scope st) (kept continues)) (block_known ks)
finished_at (Some ks) calls k scope st (returns x) =
    ap (λ (m : Meaning). bind (m calls k scope st) (kept (returns x))) (block_known ks)
finished_at (Some ks) calls k scope st (stops end) = refl

caught_same : (o : Option KnownCatch) → caught (option_map catch_with (option_map catch_tree o)) ≡ known_caught o
caught_same o = λ i calls k scope st c. caught_at o calls k scope st c i

finished_same : (o : Option (List KnownStmt)) →
    finished (option_map (map with_stmt) (option_map stmt_trees o)) ≡ known_finished o
finished_same o = λ i calls k scope st c. finished_at o calls k scope st c i

abbrev pub trying : ℕ → Meaning → Handler → Handler → Meaning
trying site m g h calls k scope st =
    count site st (λ st. bind (bind (m calls k scope st) (g calls k scope)) (h calls k scope))

pub try_opens : (site : ℕ) (body : List Stmt) (c : Option (Catch (List Stmt))) (f : Option (List Stmt)) →
    stmt (roll-Stmt (Stmt-F.Try site body c f)) ≡ trying site (block_of (map with_stmt body)) (caught (option_map catch_with c)) (finished (option_map (map with_stmt) f))
try_opens site body None None = opens_stmt (Stmt-F.Try site body None None)
try_opens site body (Some c) None = opens_stmt (Stmt-F.Try site body (Some c) None)
try_opens site body None (Some f) = opens_stmt (Stmt-F.Try site body None (Some f))
try_opens site body (Some c) (Some f) = opens_stmt (Stmt-F.Try site body (Some c) (Some f))

pub try_is : (site : ℕ) (ks : List KnownStmt) (c : Option KnownCatch) (f : Option (List KnownStmt)) →
    stmt (roll-Stmt (Stmt-F.Try site (stmt_trees ks) (option_map catch_tree c) (option_map stmt_trees f))) ≡ trying site (known_block ks) (known_caught c) (known_finished f)
try_is site ks c f = try_opens site (stmt_trees ks) (option_map catch_tree c) (option_map stmt_trees f)
    ∙ ap {B = Meaning} (λ m. trying site m (caught (option_map catch_with (option_map catch_tree c))) (finished (option_map (map with_stmt) (option_map stmt_trees f)))) (block_known ks)
    ∙ ap {B = Meaning} (λ g. trying site (known_block ks) g (finished (option_map (map with_stmt) (option_map stmt_trees f)))) (caught_same c)
    ∙ ap {B = Meaning} (λ h. trying site (known_block ks) (known_caught c) h) (finished_same f)

abbrev pub try_ : ℕ → List KnownStmt → Option KnownCatch → Option (List KnownStmt) → KnownStmt
try_ site ks c f =
    record { layer = Stmt-F.Try site (stmt_trees ks) (option_map catch_tree c) (option_map stmt_trees f); does = trying site (known_block ks) (known_caught c) (known_finished f); is = try_is site ks c f }
