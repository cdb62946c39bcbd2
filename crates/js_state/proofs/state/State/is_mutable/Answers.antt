use Rattle.std.proofs.Common.{◌≡◌, sym, ◌∙◌, arith, ◌<◌, length, Some}
use Rattle.js_state.specs.Held.{Cell}
use Rattle.js_state.proofs.Lists.{get_in}
use Rattle.js_state.proofs.Bindings.{cells_get, cells_length}
use Rattle.js_state.proofs.state.State.is_mutable.Goals as goal

pub bounds-as_slice-number : goal.bounds-as_slice-number
bounds-as_slice-number c =
    let w = (rw (← c.self.view_is) at c.requires) in
    rw c.as_slice.ensures (omega (arith, w, cells_length c.self.inside.names c.self.inside.heap.cells c.self.invariant.sound.together))

pub bounds-as_slice-number-2 : goal.bounds-as_slice-number-2
bounds-as_slice-number-2 c =
    let w = (rw (← c.self.view_is) at c.requires) in
    rw c.as_slice.ensures (omega (arith, w, cells_length c.self.inside.names c.self.inside.heap.cells c.self.invariant.sound.together))

pub returns : goal.returns
returns c cell h =
    let t = c.self.invariant.sound.together in
    let w = (rw (← c.self.view_is) at c.requires) in
    let l : c.args.number < length c.self.inside.names = omega (arith, w, cells_length c.self.inside.names c.self.inside.heap.cells t) in
    let d = c.index-as_slice-number.result in
    let g = cells_get c.self.inside.names c.self.inside.heap.cells c.args.number _ t (get_in c.self.inside.names c.args.number d l) in
    let same = sym g ∙ (rw (← c.self.view_is) at h) in
    rw c.as_slice.ensures (some_mutable _ cell same)
  where
    some_mutable : (a b : Cell) → Some a ≡ Some b → a.is_mutable ≡ b.is_mutable
    some_mutable a b e = grind arith
