use Rattle.std.proofs.Common.{sym, ap, ◌∙◌, arith}
use Rattle.std.specs.Option.{option_map}
use Rattle.term_table.specs.Views.{at}
use Rattle.js_state.proofs.Lists.{some_get}
use Rattle.js_state.proofs.Bindings.{valued_at, cells_length}
use Rattle.js_state.proofs.state.State.value_of.Goals as goal

pub cell-requires : goal.cell-requires
cell-requires c =
    let w = (rw (← c.self.view_is) at c.in-Some.ensures.within) in
    omega (arith, w, cells_length c.self.inside.names c.self.inside.heap.cells c.self.invariant.sound.together, c.self.invariant.sound.together)

pub returns-in-None-clause-gives : goal.returns-in-None-clause-gives
returns-in-None-clause-gives c view =
    let t = c.self.invariant.sound.together in
    let w = (rw (← c.self.view_is) at c.in-Some.ensures.within) in
    let b = some_get c.self.inside.names c.in-Some.number (omega (arith, w, cells_length c.self.inside.names c.self.inside.heap.cells t)) in
    rw (← c.in-Some.ensures.gives view, ← c.self.view_is) (ap (option_map (at view)) c.in-None.ensures ∙ sym (valued_at view c.self.inside.names c.self.inside.heap.cells c.in-Some.number b.0 t b.1))

pub returns-in_ok-value-in-Some-cell-clause-gives :
    goal.returns-in_ok-value-in-Some-cell-clause-gives
returns-in_ok-value-in-Some-cell-clause-gives c view =
    let t = c.self.invariant.sound.together in
    let w = (rw (← c.self.view_is) at c.in-Some.ensures.within) in
    let b = some_get c.self.inside.names c.in-Some.number (omega (arith, w, cells_length c.self.inside.names c.self.inside.heap.cells t)) in
    rw (← c.in-Some.ensures.gives view, ← c.self.view_is, c.in_ok-value-in-Some-cell.ensures) (ap (option_map (at view)) c.in-Some-cell.ensures ∙ sym (valued_at view c.self.inside.names c.self.inside.heap.cells c.in-Some.number b.0 t b.1))
