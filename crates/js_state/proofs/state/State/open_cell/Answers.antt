use Rattle.std.proofs.Common.{arith}
use Rattle.js_state.specs.Inside.{contents_of}
use Rattle.js_state.specs.Held.{scope_of}
use Rattle.js_state.proofs.Bindings.{opened, no_room, cells_length, cells_push}
use Rattle.js_state.proofs.state.State.open_cell.Goals as goal

pub returns-then-cells-ge-BINDING_LIMIT-clause-goes :
    goal.returns-then-cells-ge-BINDING_LIMIT-clause-goes
returns-then-cells-ge-BINDING_LIMIT-clause-goes c view go =
    let n = cells_length c.self.inside.names c.self.inside.heap.cells c.self.invariant.sound.together in
    no_room view c.args.site _ _ _ (scope_of c.args.scope) c.args.self.now go _ (rw (← c.self.view_is) (omega (arith, n, c.self.invariant.sound.together, c.if-cells-ge-BINDING_LIMIT.true, c.cells.ensures.count))) (c.left.ensures.gives view)

pub returns-in-Ok-clause-goes : goal.returns-in-Ok-clause-goes
returns-in-Ok-clause-goes c view go =
    let t = c.self.invariant.sound.together in
    let n = cells_length c.self.inside.names c.self.inside.heap.cells t in
    rw (← c.self.view_is, c.in_ok-push.ensures.ok, c.in-Ok.ensures.ok, c.in-Ok.ensures.id, cells_push c.self.inside.names c.self.inside.heap.cells _ c.args.value t, ← t, ← n)
    (opened view c.args.site c.args.name.now c.args.is_mutable c.args.value (scope_of c.args.scope) (contents_of c.self.inside) go (omega (arith, n, t, c.if-cells-ge-BINDING_LIMIT.false, c.cells.ensures.count)))
