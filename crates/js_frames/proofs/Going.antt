-- Statements that count no node: an `if` with no arms.
use Rattle.std.proofs.Common.{◌≡◌, ◌≤◌, ◌<◌, ℕ, List, [], ◌∷◌, length, Option, Some, None, Bool, true, false, ap, refl, ◌∙◌, sym, arith}
use Rattle.js_ast.specs.declared.expression.Expr.{Expr}
use Rattle.js_ast.specs.declared.expression.Expr.TheOpen.{Stmt-F}
use Rattle.js_ast.specs.declared.statement.Stmt.{Stmt, out-Stmt, roll-Stmt, roll-out-Stmt, fold-roll-Stmt}
use Rattle.js_ast.specs.declared.statement.Stmt.TheVariants as s
use Rattle.js_ast.specs.declared.statement.Arm.{Arm}
use Rattle.js_meaning.specs.Builtins.{Calls}
use Rattle.js_meaning.specs.Meaning.{stmt}
use Rattle.js_meaning.specs.Parts.{Meaning}
use Rattle.js_meaning.specs.Running.{done, normal}
use Rattle.js_meaning.specs.Values.{Scope, Place}
use Rattle.js_frames.proofs.Passing.{list_none}
use Rattle.js_frames.proofs.Statements.{stmt_If}
use Rattle.js_frames.specs.Idle.{idle_expr, idle_stmt, idle_arm, is_idle}
use Rattle.js_frames.specs.Weight.{cost_of_exec}

idle_none : is_idle (s.If [] None) ≡ true
unfolding is_idle
idle_none = ap is_idle (sym (s.rolls-If [] None)) ∙ fold-roll-Stmt (Unit {0}) Bool (Unit {0}) idle_expr idle_stmt idle_arm (Stmt-F.If [] None)

idle_some : (x : Stmt) → is_idle (s.If [] (Some x)) ≡ is_idle x
unfolding is_idle
idle_some x = ap is_idle (sym (s.rolls-If [] (Some x))) ∙ fold-roll-Stmt (Unit {0}) Bool (Unit {0}) idle_expr idle_stmt idle_arm (Stmt-F.If [] (Some x))

with_none : (arms : List Arm) (alternate other : Option Stmt) → length arms < 1 → alternate ≡ other → s.If arms alternate ≡ s.If [] other
with_none arms alternate other l e = ap (λ xs. s.If xs alternate) (list_none arms l) ∙ ap (s.If []) e

-- it stands for its alternative
pub means_other : (tree : Stmt) (arms : List Arm) (alternate : Option Stmt) (x : Stmt) → tree ≡ s.If arms alternate → length arms < 1 → alternate ≡ Some x → stmt tree ≡ stmt x
means_other tree arms alternate x t l e = ap stmt (t ∙ with_none arms alternate (Some x) l e) ∙ stmt_If [] (Some x)

pub idle_other : (tree : Stmt) (arms : List Arm) (alternate : Option Stmt) (x : Stmt) → tree ≡ s.If arms alternate → length arms < 1 → alternate ≡ Some x → is_idle tree ≡ is_idle x
idle_other tree arms alternate x t l e = ap is_idle (t ∙ with_none arms alternate (Some x) l e) ∙ idle_some x

not_both : (b : Bool) → b ≡ true → b ≡ false → ⊥
not_both b t f = cc

-- with no alternative either it is idle
pub idle_alone : (tree : Stmt) (arms : List Arm) (alternate : Option Stmt) → tree ≡ s.If arms alternate → length arms < 1 → alternate ≡ None → is_idle tree ≡ false → ⊥
idle_alone tree arms alternate t l e i = not_both (is_idle tree) (ap is_idle (t ∙ with_none arms alternate None l e) ∙ idle_none) i

pub needs_arms : (tree : Stmt) (arms : List Arm) (alternate : Option Stmt) → tree ≡ s.If arms alternate → ((other : Option Stmt) → tree ≡ s.If [] other → ⊥) → 1 ≤ length arms
needs_arms tree [] alternate t n = absurd (n alternate t)
needs_arms tree (a ∷ arms) alternate t n = omega arith

pub is_alone : (tree : Stmt) (arms : List Arm) (alternate : Option Stmt) → tree ≡ s.If arms alternate → length arms < 1 → alternate ≡ None → is_idle tree ≡ true
is_alone tree arms alternate t l e = ap is_idle (t ∙ with_none arms alternate None l e) ∙ idle_none

-- and does nothing
pub alone_does : (tree : Stmt) (arms : List Arm) (alternate : Option Stmt) → tree ≡ s.If arms alternate → length arms < 1 → alternate ≡ None → stmt tree ≡ (λ calls k scope st. done st normal)
alone_does tree arms alternate t l e = ap stmt (t ∙ with_none arms alternate None l e) ∙ stmt_If [] None

-- whatever a statement costs, it is little
pub exec_few : (b : Bool) → cost_of_exec b ≤ 4
exec_few true = omega arith
exec_few false = omega arith

-- any other statement counts a node

layer_counts : (f : Stmt-F Expr Stmt Arm) → ((arms : List Arm) (alternate : Option Stmt) → f ≡ Stmt-F.If arms alternate → ⊥) → is_idle (roll-Stmt f) ≡ false
unfolding is_idle
layer_counts (Stmt-F.Block site body) n = fold-roll-Stmt (Unit {0}) Bool (Unit {0}) idle_expr idle_stmt idle_arm (Stmt-F.Block site body)
layer_counts (Stmt-F.Nothing site) n = fold-roll-Stmt (Unit {0}) Bool (Unit {0}) idle_expr idle_stmt idle_arm (Stmt-F.Nothing site)
layer_counts (Stmt-F.Declare site kind ds) n = fold-roll-Stmt (Unit {0}) Bool (Unit {0}) idle_expr idle_stmt idle_arm (Stmt-F.Declare site kind ds)
layer_counts (Stmt-F.Function site name ps body) n = fold-roll-Stmt (Unit {0}) Bool (Unit {0}) idle_expr idle_stmt idle_arm (Stmt-F.Function site name ps body)
layer_counts (Stmt-F.Express site value) n = fold-roll-Stmt (Unit {0}) Bool (Unit {0}) idle_expr idle_stmt idle_arm (Stmt-F.Express site value)
layer_counts (Stmt-F.While site test body) n = fold-roll-Stmt (Unit {0}) Bool (Unit {0}) idle_expr idle_stmt idle_arm (Stmt-F.While site test body)
layer_counts (Stmt-F.Do site body test_site test) n = fold-roll-Stmt (Unit {0}) Bool (Unit {0}) idle_expr idle_stmt idle_arm (Stmt-F.Do site body test_site test)
layer_counts (Stmt-F.For site head test update body) n = fold-roll-Stmt (Unit {0}) Bool (Unit {0}) idle_expr idle_stmt idle_arm (Stmt-F.For site head test update body)
layer_counts (Stmt-F.ForOf site kind name items body) n = fold-roll-Stmt (Unit {0}) Bool (Unit {0}) idle_expr idle_stmt idle_arm (Stmt-F.ForOf site kind name items body)
layer_counts (Stmt-F.Break site) n = fold-roll-Stmt (Unit {0}) Bool (Unit {0}) idle_expr idle_stmt idle_arm (Stmt-F.Break site)
layer_counts (Stmt-F.Continue site) n = fold-roll-Stmt (Unit {0}) Bool (Unit {0}) idle_expr idle_stmt idle_arm (Stmt-F.Continue site)
layer_counts (Stmt-F.Return site value) n = fold-roll-Stmt (Unit {0}) Bool (Unit {0}) idle_expr idle_stmt idle_arm (Stmt-F.Return site value)
layer_counts (Stmt-F.Throw site value) n = fold-roll-Stmt (Unit {0}) Bool (Unit {0}) idle_expr idle_stmt idle_arm (Stmt-F.Throw site value)
layer_counts (Stmt-F.Try site body catch finally) n = fold-roll-Stmt (Unit {0}) Bool (Unit {0}) idle_expr idle_stmt idle_arm (Stmt-F.Try site body catch finally)
layer_counts (Stmt-F.If arms alternate) n = absurd (n arms alternate refl)

pub other_counts : (tree : Stmt) → ((arms : List Arm) (alternate : Option Stmt) → tree ≡ s.If arms alternate → ⊥) → is_idle tree ≡ false
other_counts tree n =
    ap is_idle (sym (roll-out-Stmt tree))
    ∙ layer_counts (out-Stmt tree) (λ arms alternate e. n arms alternate (sym (roll-out-Stmt tree) ∙ ap roll-Stmt e ∙ s.rolls-If arms alternate))

armed_counts : (a : Arm) (arms : List Arm) (alternate : Option Stmt) → is_idle (s.If (a ∷ arms) alternate) ≡ false
unfolding is_idle
armed_counts a arms alternate =
    ap is_idle (sym (s.rolls-If (a ∷ arms) alternate)) ∙ fold-roll-Stmt (Unit {0}) Bool (Unit {0}) idle_expr idle_stmt idle_arm (Stmt-F.If (a ∷ arms) alternate)

pub arms_count : (tree : Stmt) (arms : List Arm) (alternate : Option Stmt) → tree ≡ s.If arms alternate → 1 ≤ length arms → is_idle tree ≡ false
arms_count tree [] alternate t l = absurd (omega (arith, l))
arms_count tree (a ∷ arms) alternate t l = ap is_idle t ∙ armed_counts a arms alternate
