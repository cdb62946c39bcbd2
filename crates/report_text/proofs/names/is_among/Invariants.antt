use Rattle.std.proofs.Common.{◌≡◌, length, map}
use Rattle.path_core.specs.Names.{is_among}
use Rattle.report_text.proofs.names.is_among.Given as goal

abbrev pub invariant-loop-left : goal.invariant-loop-left
invariant-loop-left l = is_among l.name (map (λ w. w.now) l.left) ≡ is_among l.name (map (λ w. w.now) l.words)

abbrev pub decreases-loop-left : goal.decreases-loop-left
decreases-loop-left l = length l.left
