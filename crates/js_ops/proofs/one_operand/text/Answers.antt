use Rattle.std.proofs.Common.{sym, ◌∙◌}
use Rattle.js_ops.proofs.Short.{short_text}
use Rattle.js_ops.proofs.one_operand.text.Goals as goal

pub returns-clause-whole : goal.returns-clause-whole
returns-clause-whole c = short_text c.args.x.now c.in-Some.text c.requires (sym c.in-Some.is ∙ c.in_ok-text.ensures)
