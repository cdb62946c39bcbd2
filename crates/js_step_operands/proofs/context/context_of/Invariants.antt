use Rattle.std.proofs.Common.{◌≡◌, length}
use Rattle.js_grammar.specs.Phrases.{outermost}
use Rattle.js_reading.specs.Frames.{context, context_from}
use Rattle.js_step_operands.specs.Context.{see}
use Rattle.js_step_operands.proofs.context.context_of.Given as goal

abbrev pub invariant-each : goal.invariant-each
invariant-each l = context_from (see l.context) l.left ≡ context l.frames

abbrev pub decreases-each : goal.decreases-each
decreases-each l = length l.left
