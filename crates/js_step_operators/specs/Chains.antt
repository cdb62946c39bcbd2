-- This project's own: chains of operators that a frame holds.
use Rattle.std.specs.Prelude.{ℕ, ◌==◌, Bool, true, false, [], ◌∷◌, ◌++◌}
use Rattle.js_ast.specs.declared.expression.Expr.{Expr}
use Rattle.js_ast.specs.declared.operators.BinaryOp.{BinaryOp}
use Rattle.js_ast.specs.declared.operators.LogicalOp.{LogicalOp}
use Rattle.js_grammar.specs.Phrases.{level}
use Rattle.js_reading.specs.Operands.{goes_on, goes_inside}
use Rattle.js_reading.specs.declared.frame.Pending.{Pending}
use Rattle.js_reading.specs.declared.frame.Pending.TheVariants as pending

-- whether the chain goes on with the operator
abbrev pub continues_binary : Pending → BinaryOp → Bool
continues_binary (pending.Binary start first links site p) o = level p == level o
continues_binary _ o = false

-- the chain with the right side that its last operator awaited, and an operator more
abbrev pub link_binary : Pending → Expr → ℕ → BinaryOp → Pending
link_binary (pending.Binary start first links site' p) e site o =
    pending.Binary start first (links ++ record { site = site'; op = p; right = e } ∷ []) site o
link_binary other e site o = other

abbrev pub continues_logical : Pending → LogicalOp → Bool
continues_logical (pending.Logical start first links site p) o = goes_on p o
continues_logical _ o = false

-- whether another chain may begin inside
abbrev pub takes_logical : Pending → LogicalOp → Bool
takes_logical (pending.Logical start first links site p) o = goes_inside p o
takes_logical _ o = true

abbrev pub link_logical : Pending → Expr → ℕ → LogicalOp → Pending
link_logical (pending.Logical start first links site' p) e site o =
    pending.Logical start first (links ++ record { site = site'; op = p; right = e } ∷ []) site o
link_logical other e site o = other
