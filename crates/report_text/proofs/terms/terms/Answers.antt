use Rattle.std.proofs.Common.{sym}
use Rattle.report_text.proofs.Numbering.{numbers_start, numbers_more, numbers_wrong, numbers_end}
use Rattle.report_text.proofs.terms.terms.Goals as goal

pub loop-done-init : goal.loop-done-init
loop-done-init c = rw c.new-found.ensures (numbers_start c.args.count c.args.bytes.now)

pub loop-done-preserved : goal.loop-done-preserved
loop-done-preserved c =
    rw (c.in_ok-push-in-Some.ensures.ok)
    (numbers_more _ _ _ _ _ _ _ c.loop-done.invariant c.loop-done-test.true (sym (rw c.in-Some.is at c.in_ok-next.ensures)))

pub returns : goal.returns
returns c = sym (numbers_end _ _ _ _ _ c.loop-done.invariant c.loop-done-test.false)

pub returns-in-None : goal.returns-in-None
returns-in-None c = sym (numbers_wrong _ _ _ _ _ c.loop-done.invariant c.loop-done-test.true (sym (rw c.in-None.is at c.in_ok-next.ensures)))
