use Rattle.std.proofs.Common.{◌≡◌, ℕ, length}
use Rattle.js_meaning.specs.Blocks.{run_all}
use Rattle.js_meaning.specs.Builtins.{Calls}
use Rattle.js_meaning.specs.Meaning.{stmts}
use Rattle.js_meaning.specs.Values.{Scope, Place}
use Rattle.js_run_blocks.proofs.blocks.from_counted.Given as goal

abbrev pub invariant-loop-left : goal.invariant-loop-left
invariant-loop-left l = (calls : Calls) (k : ℕ) (scope : Scope) (st : Place) → run_all (stmts l.left) calls k scope st ≡ run_all (stmts l.fn.body) calls k scope st

abbrev pub decreases-loop-left : goal.decreases-loop-left
decreases-loop-left l = length l.left
