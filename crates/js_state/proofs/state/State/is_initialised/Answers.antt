use Rattle.std.proofs.Common.{sym, ap, ◌∙◌, arith, is_some}
use Rattle.js_state.proofs.Lists.{some_get}
use Rattle.js_state.proofs.Bindings.{cells_get, cells_length, same_value}
use Rattle.js_state.proofs.state.State.is_initialised.Goals as goal

pub cell-requires : goal.cell-requires
cell-requires c =
    let w = (rw (← c.self.view_is) at c.requires) in
    omega (arith, w, cells_length c.self.inside.names c.self.inside.heap.cells c.self.invariant.sound.together, c.self.invariant.sound.together)

pub returns-in-None : goal.returns-in-None
returns-in-None c cell h =
    let t = c.self.invariant.sound.together in
    let w = (rw (← c.self.view_is) at c.requires) in
    let b = some_get c.self.inside.names c.args.number (omega (arith, w, cells_length c.self.inside.names c.self.inside.heap.cells t)) in
    let g = cells_get c.self.inside.names c.self.inside.heap.cells c.args.number b.0 t b.1 in
    let same = sym g ∙ (rw (← c.self.view_is) at h) in
    ap is_some c.in-None.ensures ∙ same_value _ cell same

pub returns-in-Some : goal.returns-in-Some
returns-in-Some c cell h =
    let t = c.self.invariant.sound.together in
    let w = (rw (← c.self.view_is) at c.requires) in
    let b = some_get c.self.inside.names c.args.number (omega (arith, w, cells_length c.self.inside.names c.self.inside.heap.cells t)) in
    let g = cells_get c.self.inside.names c.self.inside.heap.cells c.args.number b.0 t b.1 in
    let same = sym g ∙ (rw (← c.self.view_is) at h) in
    ap is_some c.in-Some.ensures ∙ same_value _ cell same
