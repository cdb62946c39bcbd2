use Rattle.std.proofs.lemmas.Bool.{false≢true}
use Rattle.path_core.proofs.Taken.{not_same}
use Rattle.path_core.proofs.equality.are_same_events.Goals as goal

pub returns-in-None : goal.returns-in-None
returns-in-None c = (λ h. absurd (false≢true h), λ e. absurd (not_same c.args.a.now c.args.b.now c.in-None.ensures.none e))
