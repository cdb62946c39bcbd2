use Rattle.term_table.specs.Walking.{Stopped}
use Rattle.js_state.proofs.Plays.{does_cut, does_end, does_fail}
use Rattle.std.proofs.Common.{arith}
use Rattle.js_state.proofs.Spending.{taken_spends, failed_spends}
use Rattle.js_state.proofs.state.State.play_stop.Goals as goal

pub returns-in-Some-clause-does : goal.returns-in-Some-clause-does
returns-in-Some-clause-does c row walks = does_cut row (λ view w. Stopped view c.args.failed c.args.exit w) c.in-Some.site c.in_ok-site.ensures walks c.in-Some.is c.too_many.ensures

pub returns-in-None-clause-does : goal.returns-in-None-clause-does
returns-in-None-clause-does c row walks = does_end row c.args.exit c.stamped-exit.result c.in_ok-site.ensures walks c.in_default.is c.in-None.is c.stamped-exit.ensures

pub returns-in_ok-fail-in-Some-failed-clause-does : goal.returns-in_ok-fail-in-Some-failed-clause-does
returns-in_ok-fail-in-Some-failed-clause-does c row walks = does_fail row c.in-Some-failed.term c.args.exit c.stamped-exit.result c.in_ok-site.ensures walks c.in_default.is c.in-Some-failed.is c.stamped-exit.ensures c.in_ok-fail-in-Some-failed.ensures

pub returns-in-Some-clause-price : goal.returns-in-Some-clause-price
returns-in-Some-clause-price c = omega (arith, taken_spends c.in_ok-site.ensures)

pub returns-in-None-clause-price : goal.returns-in-None-clause-price
returns-in-None-clause-price c = omega (arith, taken_spends c.in_ok-site.ensures)

pub returns-in_ok-fail-in-Some-failed-clause-price : goal.returns-in_ok-fail-in-Some-failed-clause-price
returns-in_ok-fail-in-Some-failed-clause-price c = rw c.in-Some-failed.is (failed_spends c.in-Some-failed.term c.stamped-exit.result c.in_ok-site.ensures c.in_ok-fail-in-Some-failed.ensures)
