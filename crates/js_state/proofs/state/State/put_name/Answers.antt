use Rattle.std.proofs.Common.{sym, ◌∙◌}
use Rattle.js_meaning.specs.Names.{put_name, find_name}
use Rattle.js_state.proofs.Lists.{some_get}
use Rattle.js_state.proofs.Bindings.{none_of, some_of, puts_none, puts_const, puts}
use Rattle.js_state.proofs.state.State.put_name.Goals as goal

pub returns-then-not-is_initialised-clause-gives : goal.returns-then-not-is_initialised-clause-gives
unfolding put_name find_name
returns-then-not-is_initialised-clause-gives c view =
    let x = some_get c.args.self.now.cells c.in-Some.number c.in-Some.ensures.within in
    rw (← c.in-Some.ensures.gives view) (puts_none view c.args.self.now c.args.site c.in-Some.number _ x.0 x.1 (none_of x.0.value (sym c.if-not-is_initialised.true ∙ c.is_initialised.ensures x.0 x.1)) ∙ c.in_ok-completion-2.ensures.gives view)

pub returns-then-not-is_mutable-clause-gives : goal.returns-then-not-is_mutable-clause-gives
unfolding put_name find_name
returns-then-not-is_mutable-clause-gives c view =
    let x = some_get c.args.self.now.cells c.in-Some.number c.in-Some.ensures.within in
    let o = some_of x.0.value (sym c.if-not-is_initialised.false ∙ c.is_initialised.ensures x.0 x.1) in
    rw (← c.in-Some.ensures.gives view) (puts_const view c.args.self.now c.args.site c.in-Some.number _ x.0 o.0 x.1 o.1 (sym (c.is_mutable.ensures x.0 x.1) ∙ c.if-not-is_mutable.true) ∙ c.in_ok-completion-3.ensures.gives view)

pub returns-clause-gives : goal.returns-clause-gives
unfolding put_name find_name
returns-clause-gives c view =
    let x = some_get c.args.self.now.cells c.in-Some.number c.in-Some.ensures.within in
    let o = some_of x.0.value (sym c.if-not-is_initialised.false ∙ c.is_initialised.ensures x.0 x.1) in
    rw (← c.in-Some.ensures.gives view, c.write_cell.ensures.written x.0 x.1, c.in_ok-copy.ensures) (puts view c.args.self.now c.args.site c.in-Some.number c.args.value x.0 o.0 x.1 o.1 (sym (c.is_mutable.ensures x.0 x.1) ∙ c.if-not-is_mutable.false))
