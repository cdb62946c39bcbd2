use Rattle.std.proofs.Common.{List, ap, arith, subst, sym}
use Rattle.std.specs.Prelude.{Bool, Result, Ok}
use Rattle.js_units.specs.declared.memory.NoMemory.{NoMemory}
use Rattle.path_core.specs.Inputs.{within}
use Rattle.explorer.specs.Found.{found_lines}
use Rattle.explorer.proofs.Picking.{picks_none}
use Rattle.explorer.proofs.Places.{reached_first, reached_next}
use Rattle.explorer.proofs.Supplied.{supplied}
use Rattle.explorer.proofs.listing.find_all.Goals as goal

abbrev answered : Bool → Result Bool NoMemory
answered b = Ok b

pub loop-place-init : goal.loop-place-init
loop-place-init c = rw c.new-found.ensures.empty (reached_first _ _ _ c.in_ok-input.ensures.first.0 c.in_ok-input.ensures.first.1 picks_none)

pub add_path-requires-clause-values : goal.add_path-requires-clause-values
add_path-requires-clause-values c =
    let at = c.loop-place.invariant.current (omega (arith, c.count-total.ensures)) in
    supplied c.args.bounds.now.inputs c.loop-place.input.values c.requires.accepted (at.before, at.after, at.splits)

pub loop-place-preserved : goal.loop-place-preserved
loop-place-preserved c =
    reached_next _ _ c.loop-place._place c.loop-place.input.values c.next_input.new.input.values c.in_ok-_more._more (found_lines c.loop-place.found.entries) _
    (omega (arith, c.count-total.ensures)) c.loop-place.invariant c.in_ok-add_path.ensures
    (λ e. c.in_ok-_more.ensures.more (ap answered e)) (λ e. c.in_ok-_more.ensures.last (ap answered e))
