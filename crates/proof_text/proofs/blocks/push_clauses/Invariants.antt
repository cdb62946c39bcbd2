use Rattle.std.proofs.Common.{◌≡◌, ◌++◌, length}
use Rattle.std.specs.List.{flat_map}
use Rattle.proof_text.specs.Blocks.{clause_text}
use Rattle.proof_text.proofs.blocks.push_clauses.Given as goal

abbrev pub invariant-loop-left : goal.invariant-loop-left
invariant-loop-left l = l.out.items ++ flat_map clause_text l.left ≡ l.fn.out.items ++ flat_map clause_text l.clauses

abbrev pub decreases-loop-left : goal.decreases-loop-left
decreases-loop-left l = length l.left
