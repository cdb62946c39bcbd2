use Rattle.js_state.proofs.Bindings.{found, cells_length}
use Rattle.js_state.proofs.state.State.binding_of.Goals as goal

pub returns-clause-gives : goal.returns-clause-gives
returns-clause-gives c view =
    let t = c.self.invariant.sound.together in
    rw (← c.self.view_is) (found view c.self.inside.names c.self.inside.heap.cells c.args.scope.cell c.args.name.now _ t (rw c.as_slice.ensures at (c.resolve.ensures.gives view c.self.inside.heap.cells (rw c.as_slice.ensures t))))

pub returns-clause-within : goal.returns-clause-within
returns-clause-within c =
    let t = c.self.invariant.sound.together in
    rw (← c.self.view_is, cells_length c.self.inside.names c.self.inside.heap.cells t) (rw c.as_slice.ensures at c.resolve.ensures.within)
