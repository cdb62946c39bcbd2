-- Flags, unit by unit.
use Rattle.std.proofs.Common.{◌≡◌, ℕ, suc, List, [], ◌∷◌, ◌++◌, length, Some, None, refl, sym, ap, subst, ◌∙◌, append_assoc, arith}
use Rattle.std.specs.Prelude.{◌-◌, take}
use Rattle.std.proofs.lemmas.List.{length-append, append-nil}
use Rattle.re_ast.specs.declared.patterns.Flags.{Flags}
use Rattle.re_parser.proofs.Members.{parts_same}
use Rattle.re_parser.specs.Flags.{no_flags, with_flag, flags_by, flags_from, flags_of, first_at, IsBadFlag}

-- the flags of the units that were read
pub record Seen (units left : List ℕ) (f : Flags) : Type 0 where
  pub done : List ℕ
  pub units_are : units ≡ done ++ left
  pub flags : (more : List ℕ) → flags_of (done ++ more) ≡ flags_from f more

pub seen_start : (units : List ℕ) → Seen units units no_flags
seen_start units = record { done = []; units_are = refl; flags = λ more. refl }

pub seen_more : (units : List ℕ) (u : ℕ) (rest : List ℕ) (f g : Flags) → Seen units (u ∷ rest) f → with_flag f u ≡ Some g → Seen units rest g
seen_more units u rest f g s e = record {
  done = s.done ++ u ∷ [];
  units_are = s.units_are ∙ sym (append_assoc s.done (u ∷ []) rest);
  flags = λ more. ap flags_of (append_assoc s.done (u ∷ []) more) ∙ s.flags (u ∷ more) ∙ ap (flags_by (λ h. flags_from h more)) e;
}

pub seen_all : (units : List ℕ) (f : Flags) → Seen units [] f → flags_of units ≡ Some f
seen_all units f s = ap flags_of s.units_are ∙ s.flags []

taken : (pre rest : List ℕ) → take (length pre) (pre ++ rest) ≡ pre
taken [] rest = refl
taken (x ∷ pre) rest = ap (λ (q : List ℕ). x ∷ q) (taken pre rest)

taken_more : (pre : List ℕ) (u : ℕ) (rest : List ℕ) → take (suc (length pre)) (pre ++ u ∷ rest) ≡ pre ++ u ∷ []
taken_more [] u rest = refl
taken_more (x ∷ pre) u rest = ap (λ (q : List ℕ). x ∷ q) (taken_more pre u rest)

pub seen_bad : (units : List ℕ) (u : ℕ) (rest : List ℕ) (f : Flags) → Seen units (u ∷ rest) f → with_flag f u ≡ None → IsBadFlag units (length units - length (u ∷ rest))
seen_bad units u rest f s e =
    let n : length units - length (u ∷ rest) ≡ length s.done = omega (arith, ap length s.units_are, length-append s.done (u ∷ rest)) in
    subst (λ (x : ℕ). IsBadFlag units x) (sym n) (record {
      within = omega (arith, ap length s.units_are, length-append s.done (u ∷ rest));
      before = (f, ap (λ q. flags_of (take (length s.done) q)) s.units_are ∙ ap flags_of (taken s.done (u ∷ rest)) ∙ sym (ap flags_of (append-nil s.done)) ∙ s.flags []);
      here = ap (λ q. flags_of (take (suc (length s.done)) q)) s.units_are ∙ ap flags_of (taken_more s.done u rest) ∙ s.flags (u ∷ []) ∙ ap (flags_by (λ h. flags_from h [])) e;
    })

first_is : (left : List ℕ) (u : ℕ) (rest : List ℕ) → first_at left ≡ Some (u, rest) → left ≡ u ∷ rest
first_is [] u rest e = absurd cc
first_is (v ∷ vs) u rest e =
    let parts = parts_same ℕ (List ℕ) (v, vs) (u, rest) e in
    ap (λ (q : ℕ). q ∷ vs) parts.0 ∙ ap (λ (q : List ℕ). u ∷ q) parts.1

none_is : (left : List ℕ) → first_at left ≡ None → left ≡ []
none_is [] e = refl
none_is (v ∷ vs) e = absurd cc

pub seen_next : (units left : List ℕ) (u : ℕ) (rest : List ℕ) (f g : Flags) → Seen units left f → first_at left ≡ Some (u, rest) → with_flag f u ≡ Some g → Seen units rest g
seen_next units left u rest f g s e h = seen_more units u rest f g (subst (λ (q : List ℕ). Seen units q f) (first_is left u rest e) s) h

pub seen_end : (units left : List ℕ) (f : Flags) → Seen units left f → first_at left ≡ None → flags_of units ≡ Some f
seen_end units left f s e = seen_all units f (subst (λ (q : List ℕ). Seen units q f) (none_is left e) s)

pub seen_wrong : (units left : List ℕ) (u : ℕ) (rest : List ℕ) (f : Flags) → Seen units left f → first_at left ≡ Some (u, rest) → with_flag f u ≡ None → IsBadFlag units (length units - length left)
seen_wrong units left u rest f s e h = let same = first_is left u rest e in subst (λ (q : List ℕ). IsBadFlag units (length units - length q)) (sym same) (seen_bad units u rest f (subst (λ (q : List ℕ). Seen units q f) same s) h)
