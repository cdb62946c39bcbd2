use Rattle.std.proofs.Common.{refl, sym, ap, ◌∙◌}
use Rattle.term_table.proofs.Adding.{grown_same}
use Rattle.js_ops.proofs.Shown.{at_fit}
use Rattle.js_meaning.specs.Conversions.{to_boolean}
use Rattle.js_meaning.specs.Operators.{test_row, branch_row}
use Rattle.js_meaning.specs.Running.{play}
use Rattle.js_state.specs.Seen.{place_of}
use Rattle.js_state.proofs.Plays.{does_behind}
use Rattle.js_state.proofs.state.State.test.Goals as goal

pub returns-clause-does : goal.returns-clause-does
unfolding test_row
returns-clause-does c =
    does_behind refl (grown_same c.args.self.now.table) refl
    (λ view. ap (λ b. play (branch_row c.args.site b) (place_of view c.args.self.now)) (ap to_boolean (at_fit view c.args.self.now.table c.args.value.now c.requires) ∙ sym c.to_boolean-holds.ensures))
    c.in_ok-told.ensures.does
