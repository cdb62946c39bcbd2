use Rattle.sat_core.proofs.Models.{total_solves}
use Rattle.sat_core.proofs.solving.solve.Goals as goal

pub returns-in_ok-values-in-Ok-Total-clause-model_true : goal.returns-in_ok-values-in-Ok-Total-clause-model_true
returns-in_ok-values-in-Ok-Total-clause-model_true c =
    total_solves c.args.cnf.now c.run.new.steps c.run.new.trail c.in_ok-values-in-Ok-Total.field-0 c.requires.cnf (rw c.in-Ok-Total.field-0-is at c.in-Ok-Total.ensures) c.in_ok-values-in-Ok-Total.ensures.value
