use Rattle.js_state.proofs.Looked.{own_class}
use Rattle.js_state.proofs.state.State.set_own.Goals as goal

pub returns-in-Match-clause-goes : goal.returns-in-Match-clause-goes
returns-in-Match-clause-goes c view go =
    rw (own_class view c.args.self.now c.args.id, ← c.kind.ensures, c.in-Match.is, ← c.is_of_match.ensures) (c.not_set-in-Match.ensures.gives view go)
