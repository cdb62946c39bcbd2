use Rattle.std.proofs.Common.{◌≡◌, ◌++◌, length}
use Rattle.std.specs.List.{flat_map}
use Rattle.proof_text.specs.Blocks.{hint_text}
use Rattle.proof_text.proofs.blocks.push_hints.Given as goal

abbrev pub invariant-loop-left : goal.invariant-loop-left
invariant-loop-left l = l.out.items ++ flat_map hint_text l.left ≡ l.fn.out.items ++ flat_map hint_text l.hints

abbrev pub decreases-loop-left : goal.decreases-loop-left
decreases-loop-left l = length l.left
