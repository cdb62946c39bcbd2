use Rattle.std.proofs.Common.{refl, arith}
use Rattle.js_state.proofs.Bindings.{cells_length, seen_at_name}
use Rattle.js_meaning.specs.Names.{read_name, find_name}
use Rattle.js_state.proofs.state.State.read_name.Goals as goal

pub cell-requires : goal.cell-requires
cell-requires c =
    let w = (rw (← c.self.view_is) at c.in-Some.ensures.within) in
    omega (arith, w, cells_length c.self.inside.names c.self.inside.heap.cells c.self.invariant.sound.together, c.self.invariant.sound.together)

pub returns-in_ok-value-in-Some-cell-clause-gives :
    goal.returns-in_ok-value-in-Some-cell-clause-gives
unfolding read_name find_name
returns-in_ok-value-in-Some-cell-clause-gives c view =
    let t = c.self.invariant.sound.together in
    let w = (rw (← c.self.view_is) at c.in-Some.ensures.within) in
    let b = seen_at_name view c.self.inside.names c.self.inside.heap.cells c.in-Some.number t (omega (arith, w, cells_length c.self.inside.names c.self.inside.heap.cells t)) in
    rw (← c.in-Some.ensures.gives view, ← c.self.view_is, b.2, ← c.in-Some-cell.ensures, c.in_ok-value-in-Some-cell.ensures) refl

pub returns-in_ok-completion-in-None-clause-gives :
    goal.returns-in_ok-completion-in-None-clause-gives
unfolding read_name find_name
returns-in_ok-completion-in-None-clause-gives c view =
    let t = c.self.invariant.sound.together in
    let w = (rw (← c.self.view_is) at c.in-Some.ensures.within) in
    let b = seen_at_name view c.self.inside.names c.self.inside.heap.cells c.in-Some.number t (omega (arith, w, cells_length c.self.inside.names c.self.inside.heap.cells t)) in
    rw (← c.in-Some.ensures.gives view, ← c.self.view_is, b.2, ← c.in-None.ensures) (rw (← c.self.view_is) at (c.in_ok-completion-in-None.ensures.gives view))
