use Rattle.std.proofs.Common.{refl}
use Rattle.js_meaning.specs.Objects.{get_row}
use Rattle.js_ops.proofs.Shown.{at_fit}
use Rattle.js_state.proofs.ByBase.{text_of}
use Rattle.js_state.proofs.state.State.get_text.Goals as goal

pub returns-then-is_length-clause-gives : goal.returns-then-is_length-clause-gives
unfolding get_row
returns-then-is_length-clause-gives c view =
    rw (at_fit view c.args.self.now.table c.args.base.now c.requires.fits, text_of c.args.base.now.plain c.args.text c.requires.same, ← c.if-is_length.ensures, c.whole-value.ensures.value view, c.len.ensures, c.units.ensures) refl

pub returns-clause-gives : goal.returns-clause-gives
unfolding get_row
returns-clause-gives c view =
    rw (at_fit view c.args.self.now.table c.args.base.now c.requires.fits, text_of c.args.base.now.plain c.args.text c.requires.same, ← c.if-is_length.ensures)
    (rw (at_fit view c.args.self.now.table c.args.base.now c.requires.fits, text_of c.args.base.now.plain c.args.text c.requires.same) at (c.in_ok-completion.ensures.gives view))

pub returns-then-is_length-clause-fits : goal.returns-then-is_length-clause-fits
returns-then-is_length-clause-fits c = c.whole-value.ensures.fits _
