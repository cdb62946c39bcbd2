-- Worked examples of early names.
use Rattle.std.proofs.Common.{◌≡◌, ℕ, List, [], ◌∷◌, codes, Some, None}
use Rattle.js_ast.specs.declared.expression.Expr.{Expr}
use Rattle.js_ast.specs.declared.statement.Stmt.{Stmt}
use Rattle.js_ast.specs.declared.statement.Stmt.TheVariants.{Block, Declare, Function, For, Try}
use Rattle.js_ast.specs.declared.operators.DeclarationKind.TheVariants.{Let}
use Rattle.js_ast.specs.declared.parts.Identifier.{Identifier}
use Rattle.js_ast.specs.declared.parts.Declarator.{Declarator}
use Rattle.js_ast.specs.declared.parts.LoopHead.TheVariants as head
use Rattle.js_early.specs.Early.{Places, early_places, global_place}
use Rattle.js_early.proofs.Opens.{stmt_Block, stmt_Declare, stmt_Function, stmt_For, stmt_Try}

abbrev name : ℕ → List ℕ → Identifier
name site text = record { site = site; name = text }

abbrev bare : ℕ → List ℕ → List (Declarator Expr)
bare site text = record { name = name site text; value = None } ∷ []

abbrev let_of : ℕ → List ℕ → Stmt
let_of site text = Declare site Let (bare site text)

abbrev places : List Stmt → Places
places ss = early_places (record { body = ss })

-- let a; { let a; } let a;
twice : places (let_of 4 (codes "a") ∷ Block 7 (let_of 13 (codes "a") ∷ []) ∷ let_of 22 (codes "a") ∷ []) ≡ 22 ∷ []
unfolding early_places global_place
twice = simp (stmt_Declare, stmt_Block)

-- let NaN; { let NaN; }
hidden : places (let_of 4 (codes "NaN") ∷ Block 9 (let_of 15 (codes "NaN") ∷ []) ∷ []) ≡ 4 ∷ []
unfolding early_places global_place
hidden = simp (stmt_Declare, stmt_Block)

-- function f(p, p) { let p; let f; }
parameters : places (Function 0 (name 9 (codes "f")) (name 11 (codes "p") ∷ name 14 (codes "p") ∷ []) (let_of 23 (codes "p") ∷ let_of 30 (codes "f") ∷ []) ∷ []) ≡ 14 ∷ 23 ∷ []
unfolding early_places global_place
parameters = simp (stmt_Declare, stmt_Function)

-- try {} catch (b) { let b; } finally { let b; }
caught : places (Try 0 [] (Some (record { name = Some (name 14 (codes "b")); body = let_of 23 (codes "b") ∷ [] })) (Some (let_of 42 (codes "b") ∷ [])) ∷ []) ≡ 23 ∷ []
unfolding early_places global_place
caught = simp (stmt_Declare, stmt_Try)

-- for (let i;;) { let i; }
looped : places (For 0 (head.Declare Let (bare 9 (codes "i"))) None None (Block 14 (let_of 20 (codes "i") ∷ [])) ∷ []) ≡ []
unfolding early_places global_place
looped = simp (stmt_Declare, stmt_Block, stmt_For)
