-- The lines of what was found: each path with the first input that has it.
use Rattle.std.specs.Prelude.{ℕ, List, map}
use Rattle.path_core.specs.declared.path.InputValue.{InputValue}
use Rattle.report_text.specs.declared.report.Line.{Line}
use Rattle.report_text.specs.declared.report.Line.TheVariants as lines
use Rattle.explorer.specs.declared.keys.Key.{Key}

abbrev pub Named : Type 0
Named = List (List ℕ × InputValue)

abbrev pub found_line : Key × Named → Line
found_line found = lines.Path found.1 found.0.path

abbrev pub found_lines : List (Key × Named) → List Line
found_lines = map found_line
