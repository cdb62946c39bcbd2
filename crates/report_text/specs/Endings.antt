-- Ends of runs: which have one spelling, and how they are read.
use Rattle.std.specs.Prelude.{◌≡◌, ◌<◌, ◌^◌, ℕ, List, ◌++◌, codes, Option, Some, map}
use Rattle.path_core.specs.declared.path.Thrown.{Thrown}
use Rattle.path_core.specs.declared.path.Why.{Why}
use Rattle.path_core.specs.declared.path.Budget.{Budget}
use Rattle.path_core.specs.declared.path.End.{End}
use Rattle.path_core.specs.declared.path.End.TheVariants as ends
use Rattle.proof_text.specs.Lines.{◌>>=◌}
use Rattle.report_text.specs.Lines.{thrown_text, why_text, budget_text}
use Rattle.report_text.specs.Parts.{one_of, short_at, plus_at}
use Rattle.report_text.specs.declared.endings.Ending.{Ending}
use Rattle.report_text.specs.declared.endings.Ending.TheVariants as endings
use Rattle.report_text.specs.declared.endings.TheConstants.{ENDINGS}

-- where no turn was taken, no activation has ended since the last
pub record IsLeft (site turns ended : ℕ) : Type 0 where
  pub site_short : site < 2 ^ 32
  pub turns_short : turns < 2 ^ 32
  pub ended_short : ended < 2 ^ 32
  pub ended_behind : turns ≡ 0 → ended ≡ 0

-- numbers of 32 bits
abbrev pub IsEnd : End → Type 0
IsEnd ends.Done = Unit {0}
IsEnd (ends.Threw site what) = site < 2 ^ 32
IsEnd (ends.Left site why turns ended) = IsLeft site turns ended
IsEnd (ends.Cut site what) = site < 2 ^ 32

-- ---- read from left to right

-- what stands before an end's site
abbrev pub ending_text : Ending → List ℕ
ending_text endings.Done = codes "done"
ending_text (endings.Threw what) = codes "threw:" ++ thrown_text what ++ codes "@"
ending_text (endings.Left why) = codes "left:" ++ why_text why ++ codes "@"
ending_text (endings.Cut what) = codes "cut:" ++ budget_text what ++ codes "@"

unfoldable pub endings_told : List (List ℕ × Ending)
endings_told = map (λ e. (e.0.now, e.1)) ENDINGS

abbrev pub threw_at : Thrown → List ℕ → Option (End × List ℕ)
threw_at what list = do
  site ← short_at list
  Some (ends.Threw site.0 what, site.1)

abbrev pub cut_at : Budget → List ℕ → Option (End × List ℕ)
cut_at what list = do
  site ← short_at list
  Some (ends.Cut site.0 what, site.1)

abbrev pub left_at : Why → List ℕ → Option (End × List ℕ)
left_at why list = do
  site ← short_at list
  turns ← plus_at site.1
  ended ← plus_at turns.1
  Some (ends.Left site.0 why turns.0 ended.0, ended.1)

abbrev pub ended_at : Ending → List ℕ → Option (End × List ℕ)
ended_at endings.Done list = Some (ends.Done, list)
ended_at (endings.Threw what) list = threw_at what list
ended_at (endings.Left why) list = left_at why list
ended_at (endings.Cut what) list = cut_at what list

unfoldable pub end_at : List ℕ → Option (End × List ℕ)
end_at list = do
  ending ← one_of endings_told list
  ended_at ending.0 ending.1
