use Rattle.std.proofs.Common.{◌∙◌, sym, ap, List, ℕ}
use Rattle.js_meaning.specs.Operators.{text_less}
use Rattle.js_meaning.proofs.TextOrder.{less_is}
use Rattle.js_ops.proofs.Order.{same_text, more_text}
use Rattle.js_ops.proofs.texts.is_less.Goals as goal

pub returns-in-Less : goal.returns-in-Less
returns-in-Less c = rw (← c.units.ensures, ← c.units-2.ensures) (sym (less_is c.units.result.now c.units-2.result.now c.in-Less.ensures))

pub returns-in-Equal : goal.returns-in-Equal
returns-in-Equal c = rw (← c.units.ensures, ← c.units-2.ensures, c.in-Equal.ensures) (sym (same_text c.units-2.result.now))

pub returns-in-Greater : goal.returns-in-Greater
returns-in-Greater c = rw (← c.units.ensures, ← c.units-2.ensures) (sym (more_text c.units.result.now c.units-2.result.now c.in-Greater.ensures))
