use Rattle.path_core.specs.Inputs.{within}
use Rattle.explorer.specs.Found.{found_lines}
use Rattle.explorer.specs.Listing.{line_of}
use Rattle.explorer.proofs.Places.{Reached}
use Rattle.explorer.proofs.listing.find_all.Given as goal

abbrev pub invariant-loop-place : goal.invariant-loop-place
invariant-loop-place l = Reached (line_of l.script l.bounds) (within l.bounds.inputs) l._place l.input.values (found_lines l.found.entries)
