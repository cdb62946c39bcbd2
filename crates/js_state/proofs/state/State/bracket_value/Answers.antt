use Rattle.js_meaning.specs.Objects.{bracket_row}
use Rattle.js_ops.proofs.Shown.{at_fit}
use Rattle.js_state.proofs.ByBase.{text_of}
use Rattle.js_state.proofs.state.State.bracket_value.Goals as goal

pub returns-in-Text-clause-gives : goal.returns-in-Text-clause-gives
unfolding bracket_row
returns-in-Text-clause-gives c view this go =
    rw (c.if-is_static.true, at_fit view c.args.self.now.table c.args.key.now c.requires.key, text_of c.args.key.now.plain c.in-Text.text c.in-Text.ensures, ← c.units.ensures) (c.method_value.ensures.gives view go)
