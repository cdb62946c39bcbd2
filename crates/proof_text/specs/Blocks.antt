-- The text of a proof block: ASCII lines, each ended by U+000A. The first line says how many variables, clauses and steps
-- there are; a line for each clause and for each step follows. One block has one spelling.
use Rattle.std.specs.Prelude.{◌≤◌, ◌<◌, ◌^◌, ℕ, ℤ, List, ◌++◌, length, codes, decimal, All}
use Rattle.std.specs.List.{flat_map}
use Rattle.std.specs.Fmt.{signed_decimal}
use Rattle.cnf_core.specs.Derivations.{IsWithin, StepsWithin}
use Rattle.cnf_core.specs.declared.clauses.Cnf.{Cnf}
use Rattle.cnf_core.specs.declared.clauses.ProofStep.{ProofStep}
use Rattle.cnf_core.specs.declared.clauses.Derivation.{Derivation}
use Rattle.proof_text.specs.declared.reading.Sizes.{Sizes}

abbrev pub literal_text : ℤ → List ℕ
literal_text lit = codes " " ++ signed_decimal lit

abbrev pub hint_text : ℕ → List ℕ
hint_text hint = codes " " ++ decimal hint

-- c LIT .. 0
unfoldable pub clause_text : List ℤ → List ℕ
clause_text clause = codes "c" ++ flat_map literal_text clause ++ codes " 0\n"

-- s LIT .. 0 HINT .. 0
unfoldable pub step_text : ProofStep → List ℕ
step_text step = codes "s" ++ flat_map literal_text step.clause ++ codes " 0" ++ flat_map hint_text step.hints ++ codes " 0\n"

-- block V C S
unfoldable pub sizes_text : Sizes → List ℕ
sizes_text sizes = codes "block " ++ decimal sizes.variables ++ codes " " ++ decimal sizes.clauses ++ codes " " ++ decimal sizes.steps ++ codes "\n"

abbrev pub sizes_of : Cnf → Derivation → Sizes
sizes_of cnf derivation = record { variables = cnf.variables; clauses = length cnf.clauses; steps = length derivation.steps }

unfoldable pub block_text : Cnf → Derivation → List ℕ
block_text cnf derivation = sizes_text (sizes_of cnf derivation) ++ flat_map clause_text cnf.clauses ++ flat_map step_text derivation.steps

-- ---- what has a spelling

-- a hint is a number of a clause or a step, from 1 on; 0 ends them
abbrev pub IsHint : ℕ → Type 0
IsHint hint = (1 ≤ hint) × (hint < 2 ^ 64)

abbrev pub HintsSpelt : List ProofStep → Type 0
HintsSpelt steps = All (λ step. All IsHint step.hints) steps

-- each literal names one of at most 2^62 variables, and no hint is 0
pub record IsSpelt (cnf : Cnf) (derivation : Derivation) : Type 0 where
  pub variables : cnf.variables ≤ 2 ^ 62
  pub clauses : length cnf.clauses < 2 ^ 64
  pub steps : length derivation.steps < 2 ^ 64
  pub clauses_within : IsWithin cnf
  pub steps_within : StepsWithin cnf.variables derivation.steps
  pub hints : HintsSpelt derivation.steps
