use Rattle.std.proofs.Common.{◌≡◌, ◌++◌}
use Rattle.explorer.specs.Found.{found_lines}
use Rattle.explorer.proofs.listing.lines_of.Given as goal

abbrev pub invariant-loop-key : goal.invariant-loop-key
invariant-loop-key l = l.lines ++ found_lines l.key-iterator ≡ found_lines l.fn.found.entries
