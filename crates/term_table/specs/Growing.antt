-- What becomes of a table.
use Rattle.std.specs.Prelude.{◌≡◌, ◌≤◌, ◌+◌, ℕ, List, [], ◌∷◌, ◌++◌, length, slice_get, Some, ◌⊎◌, true, false}
use Rattle.term_table.specs.declared.term.Term.{Term}
use Rattle.term_table.specs.declared.term.Term.TheVariants.{Flag}

-- every earlier term stays where it is
abbrev pub Grown : List Term → List Term → Type 0
Grown old new = (more : List Term) × (new ≡ old ++ more)

-- an equal term stands at no place
abbrev pub IsNew : List Term → Term → Type 0
IsNew terms term = (k : ℕ) → slice_get terms k ≡ Some term → ⊥

-- the place of an equal term, or the term is new and comes last
abbrev pub IsAdded : List Term → List Term → Term → ℕ → Type 0
IsAdded old new term id =
    ((new ≡ old) × (slice_get old id ≡ Some term)) ⊎ ((new ≡ old ++ term ∷ []) × (id ≡ length old) × IsNew old term)

-- no term stands at two places
abbrev pub AreDistinct : List Term → Type 0
AreDistinct terms = (i j : ℕ) (term : Term) → slice_get terms i ≡ Some term → slice_get terms j ≡ Some term → i ≡ j

-- both flags stand there from the start
pub record HasFlags (terms : List Term) : Type 0 where
  pub not_held : slice_get terms 0 ≡ Some (Flag false)
  pub held : slice_get terms 1 ≡ Some (Flag true)
