use Rattle.std.proofs.Common.{◌≤◌, length}
use Rattle.language_rows.proofs.tokens.long.tokens.Given as goal

abbrev pub invariant-loop-count : goal.invariant-loop-count
invariant-loop-count l = l.at ≤ length l.text
