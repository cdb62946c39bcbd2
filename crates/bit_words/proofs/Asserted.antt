-- The clause of one literal.
use Rattle.std.proofs.Common.{◌≡◌, true, false, Bool, ◌||◌, ◌∙◌, sym, refl, List, [], ◌∷◌, ◌++◌, ℤ, zero, suc, subst, arith, ◌↔◌}
use Rattle.cnf_core.specs.Literals.{lit_true, Solves}
use Rattle.bit_words.specs.Builds.{Values}
use Rattle.bit_words.proofs.Composed.{solves_both, solves_first, solves_second}

or_none : (b : Bool) → (b || false) ≡ b
or_none true = refl
or_none false = refl

one_true : (v : Values) (lit : ℤ) → lit_true v lit ≡ true → Solves v ((lit ∷ []) ∷ [])
one_true v lit h zero d w = or_none (lit_true v lit) ∙ h
one_true v lit h (suc k) d w = absurd (omega (arith, w))

pub asserted : (v : Values) (old new : List (List ℤ)) (lit : ℤ) → new ≡ old ++ (lit ∷ []) ∷ [] → Solves v new ↔ (Solves v old × (lit_true v lit ≡ true))
asserted v old new lit e =
    let P : List (List ℤ) → Type 0 = λ cs. Solves v cs in (
      (λ s. let t = subst P e s in
          (solves_first v old ((lit ∷ []) ∷ []) t, sym (or_none (lit_true v lit)) ∙ solves_second v old ((lit ∷ []) ∷ []) t 0 (lit ∷ []) (omega arith))),
      (λ h. subst P (sym e) (solves_both v old ((lit ∷ []) ∷ []) h.0 (one_true v lit h.1))),
    )
