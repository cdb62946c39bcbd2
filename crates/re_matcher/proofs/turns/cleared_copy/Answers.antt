use Rattle.re_matcher.proofs.Repeating.{cleared_more}
use Rattle.std.proofs.Common.{◌∙◌, None, arith, sym, ap, ◌++◌, ◌+◌, drop}
use Rattle.re_ast.specs.Successes.{cleared}
use Rattle.re_matcher.proofs.turns.cleared_copy.Goals as goal

pub loop-i-preserved : goal.loop-i-preserved
loop-i-preserved c =
    c.loop-i.invariant
    ∙ cleared_more c.args.first c.args.past c.loop-i.i c.as_slice-span-items.result.now c.loop-i.groups.items None c.kept_outside-kept.result (omega arith) c.kept_outside-kept.ensures
    ∙ ap (λ v. v ++ cleared c.args.first c.args.past (c.loop-i.i + 1 + 1) (drop (c.loop-i.i + 1) c.as_slice-span-items.result.now)) (sym c.in_ok-push.ensures.ok)
