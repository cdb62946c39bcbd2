use Rattle.std.proofs.Common.{sym}
use Rattle.js_lexer.specs.Escapes.{units_of}
use Rattle.js_lexer.proofs.Closing.{inside_shorter, goes_more, goes_end}
use Rattle.js_lexer.proofs.texts.after_text.Goals as goal

pub loop-behind-smaller : goal.loop-behind-smaller
loop-behind-smaller c = inside_shorter _ _ (units_of c.in-Some.field-0-0, c.in-Some.behind.now) (sym c.in-Some.ensures)

pub loop-behind-preserved : goal.loop-behind-preserved
loop-behind-preserved c = goes_more _ _ _ (units_of c.in-Some.field-0-0, c.in-Some.behind.now) c.loop-behind.invariant (sym c.in-Some.ensures)

pub returns : goal.returns
returns c = goes_end _ _ _ _ c.loop-behind.invariant (sym c.in_default.ensures) (sym c.close.ensures)
