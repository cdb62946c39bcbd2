use Rattle.std.proofs.Common.{sym, ap, subst, ◌∙◌, List}
use Rattle.term_table.specs.declared.term.Term.{Term}
use Rattle.term_table.specs.Growing.{Grown}
use Rattle.term_table.specs.Views.{at}
use Rattle.js_meaning.specs.Operators.{binary_row}
use Rattle.js_meaning.specs.Running.{play}
use Rattle.js_state.specs.Seen.{place_of}
use Rattle.js_state.proofs.Plays.{does_behind}
use Rattle.std.proofs.Common.{arith}
use Rattle.js_state.proofs.Spending.{asked_spends}
use Rattle.js_state.proofs.state.State.operate.Goals as goal

pub returns-clause-does : goal.returns-clause-does
returns-clause-does c =
    let q = c.in_ok-outcome.ensures.asked in
    does_behind (ap (λ x. x.moves) q.same ∙ c.note_join.ensures.still.moves)
    (subst (λ (ts : List Term). Grown ts c.ask_binary.new.self.table) c.note_join.ensures.still.table q.grown)
    (ap (λ x. x.keeps) q.same ∙ c.note_join.ensures.still.keeps)
    (λ view. ap (play (binary_row c.args.op c.args.site (at view c.args.a.now) (at view c.args.b.now))) (sym (c.note_join.ensures.gives view) ∙ sym (ap (place_of view) q.same)))
    (c.in_ok-completion.ensures.does (λ view. binary_row c.args.op c.args.site (at view c.args.a.now) (at view c.args.b.now)) c.in_ok-outcome.ensures.shows)

pub returns-clause-price : goal.returns-clause-price
returns-clause-price c = omega (arith, asked_spends _ _ c.in_ok-outcome.ensures.asked c.in_ok-outcome.ensures.price, c.in_ok-completion.ensures.price, c.note_join.ensures.still.spends)
