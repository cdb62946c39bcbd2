use Rattle.term_table.proofs.Views.{at_plain}
use Rattle.term_table.specs.declared.shadow.Plain.TheVariants.{Object}
use Rattle.js_state.proofs.Found.{result_ok, result_err}
use Rattle.js_state.proofs.state.State.throw_error.Goals as goal

pub returns-in-Ok-clause-gives : goal.returns-in-Ok-clause-gives
returns-in-Ok-clause-gives c view =
    rw (c.object-value.ensures, at_plain view (Object c.in-Ok.id)) (result_ok view _ _ _ _ c.in-Ok.is (c.in_ok-made.ensures.goes view _))

pub returns-in-Err-clause-gives : goal.returns-in-Err-clause-gives
returns-in-Err-clause-gives c view = result_err view _ _ _ c.in-Err.is (c.in_ok-made.ensures.goes view _)
