-- What a set of names says of the names before it.
use Rattle.std.specs.Prelude.{◌≡◌, ℕ, List, ◌∷◌, Option, bytes_eq}
use Rattle.std.specs.List.{list_any}
use Rattle.std.specs.declared.cmp.Ordering.{Ordering}
use Rattle.std.specs.Ordering.{nat_cmp}
use Rattle.std.specs.Cmp.Lexicographic.{slice_cmp}
use Rattle.std.specs.BTreeSet.{BTreeSet, contains}
use denote.Ref.{Bor}
use Rattle.js_ast.specs.declared.parts.Identifier.{Identifier}
use Rattle.js_early.specs.Early.{repeated}
use Rattle.js_early.specs.Parts.{least_with}

abbrev pub Seen : Type 0
Seen = BTreeSet (Bor (List ℕ))

abbrev pub in_order : Bor (List ℕ) → Bor (List ℕ) → Ordering
in_order x y = slice_cmp nat_cmp x.now y.now

-- the set has the names of these, and no other
pub record Holds (seen : Seen) (earlier : List Identifier) : Type 0 where
  pub has : (q : Bor (List ℕ)) → contains in_order seen q ≡ list_any (λ n. bytes_eq q.now n.name) earlier

-- one more name is declared behind the earlier ones
pub record Declares (old new : Seen) (found found' : Option ℕ) (name : Identifier) : Type 0 where
  pub holds : (earlier : List Identifier) → Holds old earlier → Holds new (name ∷ earlier)
  pub least : (earlier rest : List Identifier) → Holds old earlier → least_with found (repeated earlier (name ∷ rest)) ≡ least_with found' (repeated (name ∷ earlier) rest)
