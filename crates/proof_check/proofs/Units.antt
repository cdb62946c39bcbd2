-- The one literal of a clause that isn't false.
use Rattle.std.proofs.Common.{ℕ, refl, zero, suc, ◌≤◌, ◌≡◌, ℤ, pos, negsuc, neg_ℤ, unsigned_abs, Bool, true, false, not, ◌&&◌, ◌∙◌, List, [], ◌∷◌, Option, Some, None, sym, subst, ap, arith, option_and_then, if◌then◌else◌, cond}
use Rattle.std.specs.List.{All, find}
use Rattle.cnf_core.specs.Literals.{Names}
use Rattle.cnf_core.specs.Validity.{among, is_valid, unit_in, unit_of, is_unit, leads}
use Rattle.proof_check.proofs.Known.{all_head, all_tail}
use Rattle.proof_check.specs.Marking.{none_opposed}

-- what is found is one of the list
found_case : {X : Type 0} (P : X → Type 0) (x l : X) (b : Bool) (rest : Option X) → P x → (rest ≡ Some l → P l) → cond b (Some x) rest ≡ Some l → P l
found_case P x l true rest h f e = subst P (let s : x ≡ l = cc in s) h
found_case P x l false rest h f e = f e

pub found_holds : {X : Type 0} (P : X → Type 0) (test : X → Bool) (xs : List X) (l : X) → All P xs → find test xs ≡ Some l → P l
found_holds P test [] l a e = absurd (cc)
found_holds P test (x ∷ xs) l a e = found_case P x l (test x) (find test xs) (all_head P x xs a) (found_holds P test xs l (all_tail P x xs a)) e

unit_case : (b : Bool) (k l : ℤ) → (if b then Some k else None) ≡ Some l → (k ≡ l) × (b ≡ true)
unit_case true k l e = (cc, refl)
unit_case false k l e = absurd (cc)

-- a unit was found in the clause, and is one there
pub unit_found : (is_false : ℤ → Bool) (clause : List ℤ) (l : ℤ) → unit_of is_false clause ≡ Some l → (find (λ k. not (is_false k)) clause ≡ Some l) × (is_unit is_false clause l ≡ true)
unit_found is_false clause l e = found_of (find (λ k. not (is_false k)) clause) e
  where
    found_of : (o : Option ℤ) → option_and_then (unit_in is_false clause) o ≡ Some l → (o ≡ Some l) × (is_unit is_false clause l ≡ true)
    found_of None e = absurd (cc)
    found_of (Some k) e =
        let u = unit_case (is_unit is_false clause k) k l e in
        (ap Some u.0, subst (λ x. is_unit is_false clause x ≡ true) u.0 u.1)

opposite_size : (l : ℤ) → unsigned_abs (neg_ℤ l) ≡ unsigned_abs l
opposite_size (pos zero) = refl
opposite_size (pos (suc n)) = refl
opposite_size (negsuc n) = refl

-- the opposite of a unit names a variable that its clause names
pub unit_named : (most variables : ℕ) (is_false : ℤ → Bool) (clause : List ℤ) (l : ℤ) → All (Names variables) clause → variables ≤ most → Some l ≡ unit_of is_false clause → Names most (neg_ℤ l)
unit_named most variables is_false clause l a w e =
    let n = found_holds (Names variables) (λ k. not (is_false k)) clause l a (unit_found is_false clause l (sym e)).0 in
    let s = opposite_size l in
    (omega (arith, s, n.0), omega (arith, s, n.1))

-- a step whose clause has no literal beside its opposite is as valid as its hints lead
pub valid_as_leads : (known : List (List ℤ)) (is_false : ℤ → Bool) (clause : List ℤ) (hints : List ℕ) → is_false ≡ among clause → true ≡ none_opposed is_false clause → leads known is_false hints ≡ is_valid known clause hints
valid_as_leads known is_false clause hints e p =
    ap (λ w. leads known w hints) e ∙ ap (λ b. b && leads known (among clause) hints) (p ∙ ap (λ w. none_opposed w clause) e)

pub not_valid : (known : List (List ℤ)) (is_false : ℤ → Bool) (clause : List ℤ) (hints : List ℕ) → is_false ≡ among clause → false ≡ none_opposed is_false clause → false ≡ is_valid known clause hints
not_valid known is_false clause hints e p = ap (λ b. b && leads known (among clause) hints) (p ∙ ap (λ w. none_opposed w clause) e)
