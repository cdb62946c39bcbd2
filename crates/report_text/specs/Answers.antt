-- What reading a report answers.
use Rattle.std.specs.Prelude.{◌≡◌, ◌≢◌, ℕ, suc, List, Result, Ok, Err}
use Rattle.proof_text.specs.Refusals.{HasLines}
use Rattle.report_text.specs.Lines.{report_text}
use Rattle.report_text.specs.Reports.{IsReport}
use Rattle.report_text.specs.declared.report.Report.{Report}
use Rattle.report_text.specs.declared.reading.ReportRefusal.{ReportRefusal}
use Rattle.report_text.specs.declared.reading.ReportRefusal.TheVariants.{Line, NoMemory}

-- the bytes are the report's text, and no other's
pub record IsRead (bytes : List ℕ) (report : Report) : Type 0 where
  pub spelt : IsReport report
  pub text : report_text report ≡ bytes
  pub alone : (r : Report) → IsReport r → report_text r ≡ bytes → r ≡ report

-- they are no report's text; some report begins with the lines before this one, counted from 1, and none with it too
pub record IsRefused (bytes : List ℕ) (line : ℕ) : Type 0 where
  pub none : (r : Report) → IsReport r → report_text r ≢ bytes
  pub before : ℕ
  pub line_is : line ≡ suc before
  pub has : HasLines report_text IsReport before bytes
  pub wrong : ¬ HasLines report_text IsReport line bytes

abbrev pub Reads : List ℕ → Result Report ReportRefusal → Type 0
Reads bytes (Ok report) = IsRead bytes report
Reads bytes (Err (Line line)) = IsRefused bytes line
Reads bytes (Err NoMemory) = Unit {0}
