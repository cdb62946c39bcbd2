use Rattle.std.proofs.Common.{refl, ap, ◌∙◌}
use Rattle.term_table.proofs.Adding.{grown_same}
use Rattle.js_ops.proofs.Shown.{at_fit}
use Rattle.js_meaning.specs.Operators.{logical_row}
use Rattle.js_meaning.specs.Running.{play}
use Rattle.js_state.specs.Seen.{place_of}
use Rattle.js_state.proofs.Plays.{does_behind}
use Rattle.js_state.proofs.state.State.decide.Goals as goal

pub returns-clause-does : goal.returns-clause-does
returns-clause-does c =
    does_behind refl (grown_same c.args.self.now.table) refl
    (λ view. ap (λ row. play row (place_of view c.args.self.now)) (ap (logical_row c.args.op c.args.site) (at_fit view c.args.self.now.table c.args.value.now c.requires) ∙ c.decides-holds.ensures c.args.site))
    c.in_ok-told.ensures.does
