use Rattle.std.proofs.Common.{◌≡◌, length, map}
use Rattle.std.specs.Prelude.{max}
use Rattle.js_lexer.specs.Words.{longest_of}
use Rattle.js_lexer.proofs.tables.longest_of.Given as goal

abbrev pub invariant-loop-entries : goal.invariant-loop-entries
invariant-loop-entries l = max l.longest (longest_of (map (λ entry. entry.now) l.entries) l.units) ≡ longest_of (map (λ entry. entry.now) l.table) l.units

abbrev pub decreases-loop-entries : goal.decreases-loop-entries
decreases-loop-entries l = length l.entries
