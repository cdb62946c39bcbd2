use Rattle.std.proofs.Common.{sym}
use Rattle.sat_core.proofs.Started.{none_alone, all_same, pair_stands}
use Rattle.sat_core.proofs.starting.first_pair.Goals as goal

pub returns-in-None-clause-alone : goal.returns-in-None-clause-alone
returns-in-None-clause-alone c = none_alone c.args.clause.now (sym c.in-None.ensures)

pub returns-in-None-other_than-clause-alone : goal.returns-in-None-other_than-clause-alone
returns-in-None-other_than-clause-alone c = all_same c.args.clause.now c.in-Some.lit.now (sym c.in-None-other_than.ensures)

pub returns-in-Some-other_than-clause-stands : goal.returns-in-Some-other_than-clause-stands
returns-in-Some-other_than-clause-stands c = pair_stands c.args.clause.now c.in-Some.lit.now c.in-Some-other_than.second (sym c.in-Some.ensures) (sym c.in-Some-other_than.ensures)
