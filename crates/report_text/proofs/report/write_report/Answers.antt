use Rattle.std.proofs.Common.{◌∙◌}
use Rattle.report_text.proofs.Shown.{written_is}
use Rattle.report_text.proofs.report.write_report.Goals as goal

pub returns : goal.returns
returns c = c.in_ok-text.ensures ∙ written_is c.args.blocks c.args.report.now
