use Rattle.std.proofs.Common.{◌≡◌, sym, ap, ◌∙◌, arith, Some, slice_set}
use Rattle.js_state.specs.Held.{Cell}
use Rattle.js_state.specs.Inside.{contents_of}
use Rattle.js_state.proofs.Lists.{some_get}
use Rattle.js_state.proofs.Bindings.{cells_get, cells_set, cells_length}
use Rattle.js_state.proofs.state.State.write_cell.Goals as goal

pub set_cell-requires : goal.set_cell-requires
set_cell-requires c =
    let w = (rw (← c.self.view_is) at c.requires.within) in
    omega (arith, w, cells_length c.self.inside.names c.self.inside.heap.cells c.self.invariant.sound.together, c.self.invariant.sound.together)

pub returns-clause-written : goal.returns-clause-written
returns-clause-written c cell h =
    let t = c.self.invariant.sound.together in
    let w = (rw (← c.self.view_is) at c.requires.within) in
    let b = some_get c.self.inside.names c.args.number (omega (arith, w, cells_length c.self.inside.names c.self.inside.heap.cells t)) in
    let g = cells_get c.self.inside.names c.self.inside.heap.cells c.args.number b.0 t b.1 in
    let same = sym g ∙ (rw (← c.self.view_is) at h) in
    rw (← c.self.view_is, c.set_cell.ensures)
    (ap (λ cs. record (contents_of c.self.inside) { cells = cs })
    (cells_set c.self.inside.names c.self.inside.heap.cells c.args.number b.0 (Some c.args.value) t b.1
    ∙ ap (λ x. slice_set (contents_of c.self.inside).cells c.args.number x) (ap (λ (x : Cell). record x { value = Some c.args.value }) (some_same _ cell same))))
  where
    some_same : (a b : Cell) → Some a ≡ Some b → a ≡ b
    some_same a b e = grind arith
