use Rattle.std.proofs.Common.{◌≡◌, length, map}
use Rattle.js_parser.specs.Tokens.{entry}
use Rattle.js_parser.proofs.tokens.word_in.Given as goal

abbrev pub invariant-loop-entries : goal.invariant-loop-entries
invariant-loop-entries l = entry (map (λ e. (e.0.now, e.1)) l.entries) l.units ≡ entry (map (λ e. (e.0.now, e.1)) l.table) l.units

abbrev pub decreases-loop-entries : goal.decreases-loop-entries
decreases-loop-entries l = length l.entries
