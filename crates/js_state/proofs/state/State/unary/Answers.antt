use Rattle.std.proofs.Common.{sym, ap}
use Rattle.term_table.specs.Views.{at}
use Rattle.js_ops.proofs.Shown.{at_fit}
use Rattle.js_meaning.specs.Operators.{unary_row}
use Rattle.js_meaning.specs.Running.{play}
use Rattle.js_state.specs.Seen.{place_of}
use Rattle.js_state.proofs.Plays.{does_behind, does_give}
use Rattle.std.proofs.Common.{arith}
use Rattle.js_state.proofs.Spending.{asked_spends}
use Rattle.js_state.proofs.state.State.unary.Goals as goal

pub returns-in-Some-clause-does : goal.returns-in-Some-clause-does
returns-in-Some-clause-does c =
    does_give _ (λ view. rw (c.in-Some.ensures.0, at_fit view c.args.self.now.table c.args.a.now c.requires, c.in-Some.ensures.1) (sym (c.in_ok-value.ensures.value view c.args.site)))

pub returns-clause-does : goal.returns-clause-does
returns-clause-does c =
    let q = c.in_ok-outcome.ensures.asked in
    does_behind (ap (λ x. x.moves) q.same) q.grown (ap (λ x. x.keeps) q.same)
    (λ view. ap (λ st. play (unary_row c.args.op c.args.site (at view c.args.a.now) (place_of view c.args.self.now).objects) st) (sym (ap (place_of view) q.same)))
    (c.in_ok-completion.ensures.does (λ view. unary_row c.args.op c.args.site (at view c.args.a.now) (place_of view c.args.self.now).objects) (λ view a. c.in_ok-outcome.ensures.shows (place_of view c.args.self.now).objects view a))

pub returns-clause-price : goal.returns-clause-price
returns-clause-price c = omega (arith, asked_spends _ _ c.in_ok-outcome.ensures.asked c.in_ok-outcome.ensures.price, c.in_ok-completion.ensures.price)
