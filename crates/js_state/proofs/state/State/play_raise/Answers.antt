use Rattle.std.proofs.Common.{[], ◌≡◌}
use Rattle.js_meaning.specs.Running.{raises}
use Rattle.js_state.proofs.Plays.{does_cut, does_raise}
use Rattle.std.proofs.Common.{arith}
use Rattle.js_state.proofs.Spending.{taken_spends}
use Rattle.js_state.proofs.state.State.play_raise.Goals as goal

pub returns-in_ok-completion-in-None-clause-does : goal.returns-in_ok-completion-in-None-clause-does
returns-in_ok-completion-in-None-clause-does c row walks = does_raise row c.args.site c.args.error c.in_ok-take_up.ensures walks c.in-None.is c.in_ok-completion-in-None.ensures.gives c.in_ok-completion-in-None.ensures.still

pub returns-in-Some-clause-does : goal.returns-in-Some-clause-does
returns-in-Some-clause-does c row walks = does_cut row (λ view w. w ≡ ([], raises c.args.site c.args.error)) c.in-Some.at c.in_ok-take_up.ensures walks c.in-Some.is c.too_many.ensures

pub returns-in_ok-completion-in-None-clause-price : goal.returns-in_ok-completion-in-None-clause-price
returns-in_ok-completion-in-None-clause-price c = omega (arith, taken_spends c.in_ok-take_up.ensures, c.in_ok-completion-in-None.ensures.still.spends)

pub returns-in-Some-clause-price : goal.returns-in-Some-clause-price
returns-in-Some-clause-price c = taken_spends c.in_ok-take_up.ensures
