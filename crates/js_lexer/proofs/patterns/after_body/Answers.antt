use Rattle.std.proofs.Common.{sym}
use Rattle.js_lexer.proofs.Slashes.{step_shorter, goes_more, goes_end}
use Rattle.js_lexer.proofs.patterns.after_body.Goals as goal

pub loop-next_in_class-smaller : goal.loop-next_in_class-smaller
loop-next_in_class-smaller c = step_shorter _ _ (c.in-Some.next_in_class, c.in-Some.behind.now) (sym c.in-Some.ensures)

pub loop-next_in_class-preserved : goal.loop-next_in_class-preserved
loop-next_in_class-preserved c = goes_more _ _ _ (c.in-Some.next_in_class, c.in-Some.behind.now) c.loop-next_in_class.invariant (sym c.in-Some.ensures)

pub returns : goal.returns
returns c = goes_end _ _ _ _ c.loop-next_in_class.invariant (sym c.in_default.ensures) (sym c.slash.ensures)
