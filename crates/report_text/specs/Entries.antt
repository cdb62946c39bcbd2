-- A report read one thing after another, up to its first wrong line.
use Rattle.std.specs.Prelude.{ℕ, zero, suc, List, [], ◌∷◌, ◌++◌, length, codes, Option, Some, None, Result, Ok, Err}
use Rattle.std.specs.Borrow.{Bor}
use Rattle.proof_text.specs.Lines.{after}
use Rattle.proof_text.specs.Counted.{line_at, ◌>>=◌}
use Rattle.report_text.specs.Heads.{head_at}
use Rattle.report_text.specs.Bodies.{body_at}
use Rattle.report_text.specs.Reports.{is_path, behind_line}
use Rattle.report_text.specs.declared.heads.Stage.{Stage}
use Rattle.report_text.specs.declared.heads.Stage.TheVariants as stages
use Rattle.report_text.specs.declared.heads.Head.{Head}
use Rattle.report_text.specs.declared.heads.Head.TheVariants as heads
use Rattle.report_text.specs.declared.report.Line.{Line}
use Rattle.report_text.specs.declared.report.Line.TheVariants as lines
use Rattle.report_text.specs.declared.report.Report.{Report}
use Rattle.report_text.specs.declared.reading.Entry.{Entry}
use Rattle.report_text.specs.declared.reading.Entry.TheVariants as entries

-- ---- one thing

abbrev pub told_line : Result (Line × List ℕ) (List ℕ) → Result (Entry × List ℕ) (List ℕ)
told_line (Ok r) = Ok (entries.Told r.0, r.1)
told_line (Err at) = Err at

abbrev pub under_at : Head → List ℕ → Result (Entry × List ℕ) (List ℕ)
under_at (heads.Path input path) list = Ok (entries.Told (lines.Path input path), list)
under_at (heads.Asked asked query) list = told_line (body_at asked query list)
under_at (heads.Last complete) list = Ok (entries.Last complete, list)

unfoldable pub entry_at : Stage → List ℕ → Result (Entry × List ℕ) (List ℕ)
entry_at stage list = do
  head ← line_at (head_at stage list) list
  under_at head.0 head.1

-- ---- all of them

abbrev pub add_lines : List Line → Result (Report × List ℕ) (List ℕ) → Result (Report × List ℕ) (List ℕ)
add_lines found (Ok r) = Ok (record { lines = found ++ r.0.lines; complete = r.0.complete }, r.1)
add_lines found (Err at) = Err at

abbrev pub entered : (Stage → List ℕ → Result (Report × List ℕ) (List ℕ)) → Result (Entry × List ℕ) (List ℕ) → Result (Report × List ℕ) (List ℕ)
entered go (Ok (entries.Told line, rest)) = add_lines (line ∷ []) (go (behind_line (is_path line)) rest)
entered go (Ok (entries.Last complete, rest)) = Ok (record { lines = []; complete = complete }, rest)
entered go (Err at) = Err at

-- at most so many
abbrev pub lines_of : ℕ → Stage → List ℕ → Result (Report × List ℕ) (List ℕ)
lines_of zero stage list = Err list
lines_of (suc n) stage list = entered (lines_of n) (entry_at stage list)

unfoldable pub lines_at : Stage → List ℕ → Result (Report × List ℕ) (List ℕ)
lines_at stage list = lines_of (suc (length list)) stage list

-- nothing stands behind the last line
abbrev pub alone : Report → List ℕ → Result Report (List ℕ)
alone report [] = Ok report
alone report (b ∷ bs) = Err (b ∷ bs)

abbrev pub seen_report : Result Report (Bor (List ℕ)) → Result Report (List ℕ)
seen_report (Ok report) = Ok report
seen_report (Err at) = Err at.now

-- the first line
abbrev pub begun : Option (List ℕ) → List ℕ → Result (List ℕ) (List ℕ)
begun None list = Err list
begun (Some start) list = Ok start

unfoldable pub report_at : List ℕ → Result Report (List ℕ)
report_at list = do
  start ← begun (after (codes "expose 1\n") list) list
  found ← lines_at stages.First start
  alone found.0 found.1
