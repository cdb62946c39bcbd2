use Rattle.std.proofs.Common.{[], ◌≡◌}
use Rattle.term_table.specs.Views.{at}
use Rattle.js_meaning.specs.Running.{gives}
use Rattle.js_state.proofs.Plays.{does_cut, does_value}
use Rattle.js_state.proofs.Spending.{taken_spends}
use Rattle.js_state.proofs.state.State.play_value.Goals as goal

pub returns-in-None-clause-does : goal.returns-in-None-clause-does
returns-in-None-clause-does c row walks = does_value row c.args.value c.in_ok-take_up.ensures walks c.in-None.is

pub returns-in-Some-clause-does : goal.returns-in-Some-clause-does
returns-in-Some-clause-does c row walks = does_cut row (λ view w. w ≡ ([], gives (at view c.args.value))) c.in-Some.site c.in_ok-take_up.ensures walks c.in-Some.is c.too_many.ensures

pub returns-in-None-clause-price : goal.returns-in-None-clause-price
returns-in-None-clause-price c = taken_spends c.in_ok-take_up.ensures

pub returns-in-Some-clause-price : goal.returns-in-Some-clause-price
returns-in-Some-clause-price c = taken_spends c.in_ok-take_up.ensures
