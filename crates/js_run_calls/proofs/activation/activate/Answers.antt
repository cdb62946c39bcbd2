use Rattle.std.proofs.Common.{◌∙◌, ap, sym, map}
use Rattle.term_table.specs.Views.{at}
use Rattle.js_meaning.specs.Blocks.{open_parameters}
use Rattle.js_state.specs.Seen.{place_of}
use Rattle.js_frames.proofs.Steps.{quiet_both, quiet_of, where_true, where_false}
use Rattle.js_run_calls.proofs.activation.activate.Goals as goal

pub returns-then-not-take_turn-clause-goes : goal.returns-then-not-take_turn-clause-goes
returns-then-not-take_turn-clause-goes c = λ view go. rw c.cut.ensures (where_false _ _ c.if-not-take_turn.true (c.take_turn.ensures.goes view c.args.site _))

pub parameters-requires : goal.parameters-requires
parameters-requires c = rw c.take_turn.ensures.quiet.table c.requires

pub returns-clause-goes : goal.returns-clause-goes
returns-clause-goes c = λ view go. where_true _ _ c.if-not-take_turn.false (c.take_turn.ensures.goes view c.args.site _) ∙ ap (λ s. open_parameters c.args.closure.parameters.now (map (at view) c.args.values.now) s (place_of view c.take_turn.new.self) go) (sym c.scope_around-scope.ensures) ∙ c.in_ok-opened.ensures.goes view go

pub returns-clause-quiet : goal.returns-clause-quiet
returns-clause-quiet c = quiet_both c.take_turn.ensures.quiet (quiet_of c.in_ok-opened.ensures.still)
