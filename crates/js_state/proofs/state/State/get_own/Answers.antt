use Rattle.term_table.specs.declared.shadow.Plain.TheVariants.{Object}
use Rattle.term_table.proofs.Views.{at_plain}
use Rattle.js_state.proofs.Looked.{own_class}
use Rattle.js_state.proofs.state.State.get_own.Goals as goal

pub returns-in_ok-completion-in-Function-clause-gives :
    goal.returns-in_ok-completion-in-Function-clause-gives
returns-in_ok-completion-in-Function-clause-gives c view =
    rw (own_class view c.args.self.now c.args.id, ← c.kind.ensures, c.in-Function.is)
    (rw (c.object-base.ensures, at_plain view (Object c.args.id)) at (c.in_ok-completion-in-Function.ensures.gives view))
