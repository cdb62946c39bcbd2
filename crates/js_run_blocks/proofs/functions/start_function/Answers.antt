use Rattle.js_run_blocks.proofs.Opened.{out_Function}
use Rattle.js_run_blocks.proofs.Started.{starts_nothing}
use Rattle.js_run_blocks.proofs.functions.start_function.Goals as goal

pub returns-in_ok-made-in-Function-clause-goes : goal.returns-in_ok-made-in-Function-clause-goes
returns-in_ok-made-in-Function-clause-goes c view go = rw (c.in-Function.is, out_Function, ← c.as_slice.ensures, ← c.as_slice-in-Function.ensures) (c.in_ok-made-in-Function.ensures.goes view go)

pub returns-in_default-clause-goes : goal.returns-in_default-clause-goes
returns-in_default-clause-goes c view go = starts_nothing _ _ _ go c.in_default.not-Function
