use Rattle.std.proofs.Common.{rules, ◌≡◌, arith, slice_get}
use Rattle.term_table.specs.Views.{bit}
use Rattle.js_meaning.specs.Operators.{branch_row}
use Rattle.js_state.proofs.Plays.{does_value, shows_branch, agreed}
use Rattle.js_state.proofs.Spending.{taken_spends, at_most}
use Rattle.js_state.proofs.state.State.branch.Goals as goal

pub returns-in-None-clause-does : goal.returns-in-None-clause-does
returns-in-None-clause-does c =
    let out : c.from.result ≡ bit c.args.holds = search rules in
    does_value (λ view. branch_row c.args.site c.args.holds) _ c.in_ok-take_event.ensures
    (λ view a. shows_branch view c.args.self.now.table c.flag.result c.args.site c.from.result c.args.holds (agreed view c.args.self.now a) (rw (← c.self.view_is) c.flag.ensures) out) c.in-None.is

pub returns-in-None-clause-price : goal.returns-in-None-clause-price
returns-in-None-clause-price c = omega (arith, taken_spends c.in_ok-take_event.ensures, at_most 2 (slice_get c.args.self.now.table c.flag.result.0))

pub returns-in-Some-clause-price : goal.returns-in-Some-clause-price
returns-in-Some-clause-price c = omega (arith, taken_spends c.in_ok-take_event.ensures, at_most 2 (slice_get c.args.self.now.table c.flag.result.0))
