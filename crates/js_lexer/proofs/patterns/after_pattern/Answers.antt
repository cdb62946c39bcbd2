use Rattle.std.proofs.Common.{sym, subst, List, ℕ, Some}
use Rattle.js_lexer.specs.Bodies.{PatternEndsAt}
use Rattle.js_lexer.proofs.PatternEnds.{pattern_some}
use Rattle.js_lexer.proofs.patterns.after_pattern.Goals as goal

pub returns : goal.returns
returns c =
    subst (λ (q : List ℕ). PatternEndsAt c.args.units.now (Some q)) (sym c.after_flags.ensures)
    (pattern_some c.args.units.now c.in_ok-behind.behind.now (sym c.if-begins_comment.ensures) c.in_ok-behind.ensures)
