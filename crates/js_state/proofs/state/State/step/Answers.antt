use Rattle.std.proofs.Common.{sym, ap}
use Rattle.term_table.specs.Views.{at}
use Rattle.js_meaning.specs.Operators.{step_row}
use Rattle.js_meaning.specs.Running.{play}
use Rattle.js_state.specs.Seen.{place_of}
use Rattle.js_state.proofs.Plays.{does_behind}
use Rattle.std.proofs.Common.{arith}
use Rattle.js_state.proofs.Spending.{asked_spends}
use Rattle.js_state.proofs.state.State.step.Goals as goal

pub returns-clause-does : goal.returns-clause-does
returns-clause-does c =
    let q = c.in_ok-outcome.ensures.asked in
    does_behind (ap (λ x. x.moves) q.same) q.grown (ap (λ x. x.keeps) q.same)
    (λ view. ap (play (step_row c.args.op c.args.site (at view c.args.a.now))) (sym (ap (place_of view) q.same)))
    (c.in_ok-completion.ensures.does (λ view. step_row c.args.op c.args.site (at view c.args.a.now)) c.in_ok-outcome.ensures.shows)

pub returns-clause-price : goal.returns-clause-price
returns-clause-price c = omega (arith, asked_spends _ _ c.in_ok-outcome.ensures.asked c.in_ok-outcome.ensures.price, c.in_ok-completion.ensures.price)
