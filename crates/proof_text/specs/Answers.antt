-- What reading a block answers.
use Rattle.std.specs.Prelude.{◌≡◌, ◌≤◌, ℕ, ◌+◌, ◌==◌, List, [], ◌∷◌, ◌++◌, length, drop, Result, Ok, Err, if◌then◌else◌}
use Rattle.cnf_core.specs.declared.clauses.Cnf.{Cnf}
use Rattle.cnf_core.specs.declared.clauses.Derivation.{Derivation}
use Rattle.proof_text.specs.Blocks.{block_text, IsSpelt}
use Rattle.proof_text.specs.Refusals.{IsFirstWrong}
use Rattle.proof_text.specs.declared.block.Block.{Block}
use Rattle.proof_text.specs.declared.block.BlockRefusal.{BlockRefusal}
use Rattle.proof_text.specs.declared.block.BlockRefusal.TheVariants.{Line, NoMemory}

-- clauses and their derivation, as one
abbrev pub spelling : Cnf × Derivation → List ℕ
spelling b = block_text b.0 b.1

abbrev pub HasSpelling : Cnf × Derivation → Type 0
HasSpelling b = IsSpelt b.0 b.1

-- the bytes from `at` to the end are the block's text, and begin with no other block's
pub record IsRead (bytes : List ℕ) (at : ℕ) (block : Block) : Type 0 where
  pub spelt : HasSpelling (block.cnf, block.derivation)
  pub ends : block.end ≤ length bytes
  pub text : spelling (block.cnf, block.derivation) ++ drop block.end bytes ≡ drop at bytes
  pub alone : (b : Cnf × Derivation) (rest : List ℕ) → HasSpelling b → spelling b ++ rest ≡ drop at bytes → b ≡ (block.cnf, block.derivation)

abbrev pub Reads : List ℕ → ℕ → Result Block BlockRefusal → Type 0
Reads bytes at (Ok block) = IsRead bytes at block
Reads bytes at (Err (Line line)) = IsFirstWrong spelling HasSpelling (drop at bytes) line
Reads bytes at (Err NoMemory) = Unit {0}

-- how many lines end in a list
abbrev pub line_ends : List ℕ → ℕ
line_ends [] = 0
line_ends (b ∷ bs) = (if b == 10 then 1 else 0) + line_ends bs
