-- Classes (ECMA-262, sections 22.2.1 and B.1.2).
use Rattle.std.specs.Prelude.{◌≡◌, ℕ, ◌==◌, List, [], ◌∷◌, ◌++◌, Option, Some, None, Result, Ok, Err, if◌then◌else◌}
use Rattle.re_parser.specs.Escapes.{item_at, item_units}
use Rattle.re_parser.specs.declared.kinds.ClassItem.{ClassItem}
use Rattle.re_parser.specs.declared.refusal.Fault.{Fault}
use Rattle.re_parser.specs.declared.refusal.Fault.TheVariants as fault

-- ClassContents and `]`: the units behind `[` or `[^` are members with these ranges, and the rest is behind the `]`.
pub data IsMembers : List ℕ → List (ℕ × ℕ) → List ℕ → Type 0 where
  members_end : (units rest : List ℕ) → units ≡ 93 ∷ rest → IsMembers units [] rest
  members_more : (units : List ℕ) (item : ClassItem) (mid : List ℕ) (ranges : List (ℕ × ℕ)) (rest : List ℕ) → item_at units ≡ Some (item, mid) → IsMembers mid ranges rest → IsMembers units (item_units item ++ ranges) rest

-- behind a `]`
abbrev pub close_at : List ℕ → Option (List ℕ)
close_at [] = None
close_at (u ∷ us) = if u == 93 then Some us else None

-- no class goes on so
abbrev pub NoMembers : List ℕ → Type 0
NoMembers units = (ranges : List (ℕ × ℕ)) (rest : List ℕ) → IsMembers units ranges rest → ⊥

-- the same answer, with the value seen so
abbrev pub map_ok : {X Y : Type 0} → (X → Y) → Result X Fault → Result Y Fault
map_ok see (Ok x) = Ok (see x)
map_ok see (Err e) = Err e

-- a refusal, unless memory ran out, means this
abbrev pub Lacks : (Type 0) → Fault → Type 0
Lacks T fault.NoMemory = Unit {0}
Lacks T _ = T

abbrev pub MembersEnd : List ℕ → Result (List (ℕ × ℕ) × List ℕ) Fault → Type 0
MembersEnd units (Ok x) = IsMembers units x.0 x.1
MembersEnd units (Err e) = Lacks (NoMembers units) e
