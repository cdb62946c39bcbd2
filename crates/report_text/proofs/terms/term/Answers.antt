use Rattle.std.proofs.Common.{sym}
use Rattle.report_text.proofs.ReadTerms.{behind_shorter}
use Rattle.report_text.proofs.terms.term.Goals as goal

pub before-requires : goal.before-requires
before-requires c = behind_shorter c.args.earlier c.args.bytes.now c.in-Some.left.now (sym (rw c.in-Some.is at c.in_ok-left.ensures))
