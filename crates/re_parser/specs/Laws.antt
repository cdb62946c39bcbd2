-- Laws of the definitions (this project's own).
use Rattle.std.specs.Prelude.{ℕ, List, Err}
use Rattle.re_ast.specs.declared.patterns.Pattern.{Pattern}
use Rattle.re_parser.specs.Places.{IsRefusedAt}
use Rattle.re_parser.specs.Answers.{Kinds}
use Rattle.re_parser.specs.declared.refusal.PatternRefusal.{PatternRefusal}
use Rattle.re_parser.specs.declared.refusal.PatternRefusal.TheVariants as refusal

-- a refusal of a body
abbrev pub IsOfBody : PatternRefusal → Type 0
IsOfBody refusal.NoMemory = ⊥
IsOfBody (refusal.Flags at) = ⊥
IsOfBody _ = Unit {0}

-- the refusal of a body with its reason and its place, as the clauses `kinds` and `place` say them
pub record IsReason (body : List ℕ) (e : PatternRefusal) : Type 0 where
  pub of : IsOfBody e
  pub kind : Kinds body (Err e)
  pub place : IsRefusedAt {X = Pattern} body (Err e)
