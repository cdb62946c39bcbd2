use Rattle.std.proofs.Common.{◌≡◌, take}
use Rattle.re_ast.proofs.copies.+copying.Given as goal

abbrev pub invariant-copy_all-loop-node : goal.invariant-copy_all-loop-node
invariant-copy_all-loop-node l = l.made ≡ take l.node-index l.nodes
