-- This project's own: lists of expressions between brackets.
use Rattle.std.specs.Prelude.{[], ◌∷◌, ◌++◌}
use Rattle.js_ast.specs.declared.expression.Expr.{Expr}
use Rattle.js_reading.specs.declared.frame.Bracket.{Bracket}
use Rattle.js_reading.specs.declared.frame.Bracket.TheVariants as bracket

-- the list with an expression more
abbrev pub with_expression : Bracket → Expr → Bracket
with_expression (bracket.Array site items) e = bracket.Array site (items ++ e ∷ [])
with_expression (bracket.Call start first suffixes site arguments) e = bracket.Call start first suffixes site (arguments ++ e ∷ [])
with_expression (bracket.New site n arguments) e = bracket.New site n (arguments ++ e ∷ [])
with_expression other e = other
