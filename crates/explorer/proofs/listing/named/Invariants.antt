use Rattle.std.proofs.Common.{◌≡◌, ◌++◌, length}
use Rattle.explorer.specs.Listing.{named}
use Rattle.explorer.proofs.listing.named.Given as goal

abbrev pub invariant-loop-inputs_left : goal.invariant-loop-inputs_left
invariant-loop-inputs_left l = l.items ++ named l.inputs_left l.values_left ≡ named l.inputs l.values

abbrev pub decreases-loop-inputs_left : goal.decreases-loop-inputs_left
decreases-loop-inputs_left l = length l.inputs_left
