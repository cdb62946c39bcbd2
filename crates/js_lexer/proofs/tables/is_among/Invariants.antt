use Rattle.std.proofs.Common.{◌≡◌, length, map}
use Rattle.js_lexer.specs.Tables.{is_among}
use Rattle.js_lexer.proofs.tables.is_among.Given as goal

abbrev pub invariant-loop-entries : goal.invariant-loop-entries
invariant-loop-entries l = is_among (map (λ entry. entry.now) l.entries) l.units ≡ is_among (map (λ entry. entry.now) l.table) l.units

abbrev pub decreases-loop-entries : goal.decreases-loop-entries
decreases-loop-entries l = length l.entries
