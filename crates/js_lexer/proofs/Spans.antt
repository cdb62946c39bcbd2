-- Runs of units that pass a test.
use Rattle.std.proofs.Common.{◌≡◌, ℕ, ◌≤◌, Bool, true, false, cond, List, [], ◌∷◌, ◌++◌, length, refl, ap, ◌∙◌, arith}
use Rattle.std.specs.List.{list_all}
use Rattle.std.proofs.lemmas.Bool.{and_parts}
use Rattle.js_lexer.specs.Runs.{starts, IsRun, skip_while}

skip_le_by : (x : Bool) (u : ℕ) (a us : List ℕ) → length a ≤ length us → length (cond x a (u ∷ us)) ≤ length (u ∷ us)
skip_le_by true u a us h = omega (arith, h)
skip_le_by false u a us h = omega arith

-- skipping never adds units
pub skip_le : (test : ℕ → Bool) (units : List ℕ) → length (skip_while test units) ≤ length units
skip_le test [] = omega arith
skip_le test (u ∷ us) = skip_le_by (test u) u (skip_while test us) us (skip_le test us)

run_by : (test : ℕ → Bool) (u : ℕ) (us : List ℕ) (x : Bool) → test u ≡ x → ((run : List ℕ) × IsRun test us run (skip_while test us)) → (run : List ℕ) × IsRun test (u ∷ us) run (cond x (skip_while test us) (u ∷ us))
run_by test u us true e h = (u ∷ h.0, record { units_are = ap (λ q. u ∷ q) h.1.units_are; all = rw e h.1.all; ends = h.1.ends })
run_by test u us false e h = ([], record { units_are = refl; all = refl; ends = e })

-- what is skipped is a run
pub run_of : (test : ℕ → Bool) (units : List ℕ) → (run : List ℕ) × IsRun test units run (skip_while test units)
run_of test [] = ([], record { units_are = refl; all = refl; ends = refl })
run_of test (u ∷ us) = run_by test u us (test u) refl (run_of test us)

-- units that pass are skipped
pub skip_run : (test : ℕ → Bool) (run rest : List ℕ) → list_all test run ≡ true → skip_while test (run ++ rest) ≡ skip_while test rest
skip_run test [] rest e = refl
skip_run test (u ∷ run) rest e = let parts = and_parts (test u) (list_all test run) e in rw parts.0 (skip_run test run rest parts.1)

-- where none passes, nothing is skipped
pub skip_stop : (test : ℕ → Bool) (rest : List ℕ) → starts test rest ≡ false → skip_while test rest ≡ rest
skip_stop test [] e = refl
skip_stop test (u ∷ us) e = rw e refl

-- a run is what is skipped
pub run_only : (test : ℕ → Bool) (units run rest : List ℕ) → IsRun test units run rest → skip_while test units ≡ rest
run_only test units run rest h = ap (skip_while test) h.units_are ∙ skip_run test run rest h.all ∙ skip_stop test rest h.ends

-- units that pass go no further than the run does
pub run_longest : (test : ℕ → Bool) (units run rest : List ℕ) → units ≡ run ++ rest → list_all test run ≡ true → length (skip_while test units) ≤ length rest
run_longest test units run rest e all = let same = ap (skip_while test) e ∙ skip_run test run rest all in rw same (skip_le test rest)
