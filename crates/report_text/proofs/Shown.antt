-- Where all blocks are shown, nothing is left out.
use Rattle.std.proofs.Common.{◌≡◌, Bool, true, false, List, [], ◌∷◌, map, refl, ap, ◌∙◌}
use Rattle.report_text.specs.declared.report.Line.{Line}
use Rattle.report_text.specs.declared.report.Line.TheVariants as lines
use Rattle.report_text.specs.declared.report.Report.{Report}
use Rattle.report_text.specs.Lines.{shown, shown_report, report_text, written}

shown_line : (l : Line) → shown true l ≡ l
shown_line (lines.Path input path) = refl
shown_line (lines.Shut query block) = refl
shown_line (lines.Tried query tried untried) = refl
shown_line (lines.Stepped query cnf derivation) = refl
shown_line (lines.Wide query cost terms) = refl
shown_line (lines.Unvisited query input) = refl

shown_lines : (ls : List Line) → map (shown true) ls ≡ ls
shown_lines [] = refl
shown_lines (l ∷ ls) = ap (λ (m : Line). m ∷ map (shown true) ls) (shown_line l) ∙ ap (λ (ms : List Line). l ∷ ms) (shown_lines ls)

pub written_is : (blocks : Bool) (r : Report) → report_text (shown_report blocks r) ≡ written blocks r
written_is true r = ap (λ (ls : List Line). report_text (record { lines = ls; complete = r.complete })) (shown_lines r.lines)
written_is false r = refl
