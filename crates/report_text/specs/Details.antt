-- Lines that stand under a line about a query.
use Rattle.std.specs.Prelude.{ℕ, ◌-◌, ◌^◌, List, ◌++◌, codes, decimal, Option, Some}
use Rattle.js_units.specs.Reading.{many}
use Rattle.path_core.specs.declared.path.InputValue.{InputValue}
use Rattle.proof_text.specs.Lines.{after, ◌>>=◌}
use Rattle.proof_text.specs.Numbers.{number_at}
use Rattle.report_text.specs.Lines.{input_text}
use Rattle.report_text.specs.Inputs.{item_at}

-- a word and an input
abbrev pub input_line : List ℕ → List (List ℕ × InputValue) → List ℕ
input_line word input = word ++ input_text input ++ codes "\n"

unfoldable pub input_line_at : List ℕ → List ℕ → Option (List (List ℕ × InputValue) × List ℕ)
input_line_at word list = do
  start ← after word list
  rest ← after (codes "\n") (many item_at start).1
  Some ((many item_at start).0, rest)

-- a word and a number
abbrev pub number_line : List ℕ → ℕ → List ℕ
number_line word number = word ++ decimal number ++ codes "\n"

unfoldable pub number_line_at : List ℕ → List ℕ → Option (ℕ × List ℕ)
number_line_at word list = do
  start ← after word list
  number ← number_at (2 ^ 64 - 1) start
  rest ← after (codes "\n") number.1
  Some (number.0, rest)
