use Rattle.std.proofs.Common.{refl}
use Rattle.js_early.proofs.Earlier.{declares_again, declares_first}
use Rattle.js_early.proofs.scopes.declare.Goals as goal

pub returns-then-not-branch : goal.returns-then-not-branch
returns-then-not-branch c = declares_again _ _ _ _ _ c.as_slice.result c.as_slice.ensures c.in_ok-insert.ensures.updates _ c.in_ok-insert.ensures.added c.if-not-branch.true c.note.ensures

pub returns-else-not-branch : goal.returns-else-not-branch
returns-else-not-branch c = declares_first _ _ _ _ _ c.as_slice.result c.as_slice.ensures c.in_ok-insert.ensures.updates _ c.in_ok-insert.ensures.added c.if-not-branch.false refl
