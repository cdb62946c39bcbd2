-- What is read can be written.
use Rattle.std.proofs.Common.{◌≡◌, ℕ, true, List, [], ◌∷◌, refl, arith}
use Rattle.std.specs.Prelude.{not}
use Rattle.std.specs.List.{list_all}
use Rattle.std.proofs.lemmas.Bool.{and_parts}
use Rattle.js_units.specs.Characters.{is_digit, is_letter, is_name_start, is_name_part}
use Rattle.path_core.specs.Names.{is_word, is_reserved}
use Rattle.path_core.specs.declared.path.InputValue.{InputValue}
use Rattle.report_text.specs.Lines.{is_ascii, are_items_spelt, IsLineSpelt, AreSpelt}
use Rattle.report_text.specs.Queries.{Each}
use Rattle.report_text.specs.Reports.{IsInput, IsLineRead, is_path, behind_line, AreLines, IsReport}
use Rattle.report_text.specs.declared.heads.Stage.{Stage}
use Rattle.report_text.specs.declared.heads.Stage.TheVariants as stages
use Rattle.report_text.specs.declared.report.Line.{Line}
use Rattle.report_text.specs.declared.report.Line.TheVariants as lines
use Rattle.report_text.specs.declared.report.Report.{Report}

part_ascii : (b : ℕ) → is_name_part b ≡ true → is_ascii b ≡ true
unfolding is_name_part is_name_start is_letter is_digit
part_ascii b e = grind arith

start_ascii : (b : ℕ) → is_name_start b ≡ true → is_ascii b ≡ true
unfolding is_name_start is_letter
start_ascii b e = grind arith

parts_ascii : (bs : List ℕ) → list_all is_name_part bs ≡ true → list_all is_ascii bs ≡ true
parts_ascii [] e = refl
parts_ascii (b ∷ bs) e = let k = and_parts (is_name_part b) (list_all is_name_part bs) e in rw (part_ascii b k.0) (parts_ascii bs k.1)

word_ascii : (name : List ℕ) → is_word name ≡ true → list_all is_ascii name ≡ true
word_ascii [] e = refl
word_ascii (b ∷ bs) e = let k = and_parts (is_name_start b) (list_all is_name_part bs) e in rw (start_ascii b k.0) (parts_ascii bs k.1)

input_spelt : (input : List (List ℕ × InputValue)) → IsInput input → are_items_spelt input ≡ true
input_spelt [] s = refl
input_spelt (i ∷ input) s = rw (word_ascii i.0 (and_parts (is_word i.0) (not (is_reserved i.0)) s.0.0).0) (input_spelt input s.1)

inputs_spelt : (inputs : List (List (List ℕ × InputValue))) → Each IsInput inputs → list_all are_items_spelt inputs ≡ true
inputs_spelt [] s = refl
inputs_spelt (input ∷ inputs) s = rw (input_spelt input s.0) (inputs_spelt inputs s.1)

line_spelt : (line : Line) → IsLineRead line → IsLineSpelt line
line_spelt (lines.Path input path) s = input_spelt input s.input_spelt
line_spelt (lines.Shut query block) s = s.1
line_spelt (lines.Tried query tried untried) s = (inputs_spelt tried s.1.0, input_spelt untried s.1.1)
line_spelt (lines.Stepped query cnf derivation) s = s.1
line_spelt (lines.Wide query cost terms) s = tt
line_spelt (lines.Unvisited query input) s = input_spelt input s.1

lines_spelt : (stage : Stage) (ls : List Line) → AreLines stage ls → AreSpelt ls
lines_spelt stage [] s = tt
lines_spelt stage (line ∷ ls) s = (line_spelt line s.1.0, lines_spelt (behind_line (is_path line)) ls s.1.1)

pub report_spelt : (r : Report) → IsReport r → AreSpelt r.lines
report_spelt r s = lines_spelt stages.First r.lines s
