use Rattle.std.proofs.Common.{sym}
use Rattle.proof_text.specs.Reading.{clause_at}
use Rattle.proof_text.proofs.Counting.{counts_start, counts_more, counts_wrong, counts_end}
use Rattle.proof_text.proofs.reading.clauses.Goals as goal

pub loop-remaining-init : goal.loop-remaining-init
loop-remaining-init c = rw c.new-found.ensures (counts_start (clause_at c.args.variables) c.args.count c.args.bytes.now)

pub loop-remaining-preserved : goal.loop-remaining-preserved
loop-remaining-preserved c =
    rw (c.in_ok-push-in-Some.ensures.ok)
    (counts_more (clause_at c.args.variables) _ _ _ _ _ _ _ c.loop-remaining.invariant c.loop-remaining-test.true (sym (rw c.in-Some.is at c.in_ok-next.ensures)))

pub returns : goal.returns
returns c = sym (counts_end (clause_at c.args.variables) _ _ _ _ _ c.loop-remaining.invariant c.loop-remaining-test.false)

pub returns-in-None : goal.returns-in-None
returns-in-None c = sym (counts_wrong (clause_at c.args.variables) _ _ _ _ _ c.loop-remaining.invariant c.loop-remaining-test.true (sym (rw c.in-None.is at c.in_ok-next.ensures)))
