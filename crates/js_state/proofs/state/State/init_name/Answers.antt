use Rattle.std.proofs.Common.{refl, sym, arith}
use Rattle.js_state.specs.Inside.{contents_of}
use Rattle.js_state.proofs.Lists.{some_get}
use Rattle.js_state.proofs.Bindings.{written, cells_length}
use Rattle.js_meaning.specs.Names.{init_name}
use Rattle.js_state.proofs.state.State.init_name.Goals as goal

pub set_cell-requires : goal.set_cell-requires
set_cell-requires c =
    let w = (rw (← c.self.view_is) at c.in-Some.ensures.within) in
    omega (arith, w, cells_length c.self.inside.names c.self.inside.heap.cells c.self.invariant.sound.together, c.self.invariant.sound.together)

pub returns-in-None-clause-gives : goal.returns-in-None-clause-gives
unfolding init_name
returns-in-None-clause-gives c view = rw (← c.in-None.ensures.gives view) refl

pub returns-in-Some-clause-gives : goal.returns-in-Some-clause-gives
unfolding init_name
returns-in-Some-clause-gives c view =
    let t = c.self.invariant.sound.together in
    let w = (rw (← c.self.view_is) at c.in-Some.ensures.within) in
    let b = some_get c.self.inside.names c.in-Some.number (omega (arith, w, cells_length c.self.inside.names c.self.inside.heap.cells t)) in
    rw (← c.in-Some.ensures.gives view, c.set_cell.ensures, ← c.self.view_is) (sym (written view (contents_of c.self.inside) c.self.inside.names c.self.inside.heap.cells c.in-Some.number b.0 c.args.value refl t b.1))
