use Rattle.std.proofs.Common.{◌≡◌, length, map}
use Rattle.js_meaning.specs.Builtins.{among}
use Rattle.js_state.proofs.reading.is_among.Given as goal

abbrev pub invariant-loop-left : goal.invariant-loop-left
invariant-loop-left l = among l.name (map (λ n. n.now) l.left) ≡ among l.name (map (λ n. n.now) l.names)

abbrev pub decreases-loop-left : goal.decreases-loop-left
decreases-loop-left l = length l.left
