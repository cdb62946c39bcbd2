use Rattle.std.proofs.Common.{◌≡◌, length, map}
use Rattle.report_text.specs.Parts.{one_of}
use Rattle.report_text.proofs.words.one_of.Given as goal

abbrev pub invariant-loop-entries : goal.invariant-loop-entries
invariant-loop-entries g l = one_of (map (λ e. (e.0.now, e.1)) l.entries) l.bytes ≡ one_of (map (λ e. (e.0.now, e.1)) l.table) l.bytes

abbrev pub decreases-loop-entries : goal.decreases-loop-entries
decreases-loop-entries g l = length l.entries
