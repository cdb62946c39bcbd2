use Rattle.std.proofs.Common.{sym, ap, ◌∙◌}
use Rattle.report_text.specs.Entries.{seen_report}
use Rattle.report_text.proofs.RefuseReports.{shorter_rest, answers_line, answers_report}
use Rattle.report_text.proofs.Writable.{report_spelt}
use Rattle.report_text.proofs.reading.read_report.Goals as goal

pub line_at-requires : goal.line_at-requires
line_at-requires c = shorter_rest c.args.bytes.now c.in-Err-read.at.now (sym c.in-Ok.ensures ∙ ap seen_report c.in-Err-read.is)

pub returns-in-Ok-read : goal.returns-in-Ok-read
returns-in-Ok-read c =
    let read = answers_report c.args.bytes.now c.in-Ok-read.report (sym c.in-Ok.ensures ∙ ap seen_report c.in-Ok-read.is) in record { read = read; writable = report_spelt c.in-Ok-read.report read.spelt }

pub returns-in-Err-read : goal.returns-in-Err-read
returns-in-Err-read c = record {
  read = answers_line c.args.bytes.now c.in-Err-read.at.now (sym c.in-Ok.ensures ∙ ap seen_report c.in-Err-read.is) c.line_at.result c.line_at.ensures;
  writable = tt;
}
