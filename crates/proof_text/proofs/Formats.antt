-- The lines of a block, each with its text and its reading.
use Rattle.std.proofs.Common.{◌≡◌, ℕ, ◌-◌, ◌^◌, ◌<◌, ◌≤◌, true, List, [], ◌∷◌, ◌++◌, refl, sym, ap, subst, ◌∙◌, arith, append_assoc}
use Rattle.std.specs.Prelude.{ℤ, codes, decimal}
use Rattle.std.specs.List.{flat_map, list_all}
use Rattle.std.proofs.lemmas.Bool.{and_parts}
use Rattle.cnf_core.specs.Literals.{Names}
use Rattle.cnf_core.specs.declared.clauses.ProofStep.{ProofStep}
use Rattle.js_units.specs.Characters.{is_digit}
use Rattle.js_units.proofs.Reading.{same_read, Sound, Spelt, Complete}
use Rattle.proof_text.specs.Numbers.{number_at}
use Rattle.proof_text.specs.Lines.{after}
use Rattle.proof_text.specs.declared.reading.Sizes.{Sizes}
use Rattle.proof_text.specs.Blocks.{literal_text, hint_text, clause_text, step_text, sizes_text, IsHint}
use Rattle.proof_text.specs.Reading.{clause_at, step_at, sizes_at}
use Rattle.proof_text.proofs.Parts.{after_sound, found}
use Rattle.proof_text.proofs.Numerals.{apart, number_sound, number_complete, decimal_inner, signed_inner}
use Rattle.proof_text.proofs.Whole.{is_inner, IsLine}
use Rattle.proof_text.proofs.Refusing.{IsLineFormat}
use Rattle.proof_text.proofs.Listed.{between_names, clause_sound, clause_complete, StepSpelt, step_sound, step_complete}

pub inner_append : (a b : List ℕ) → list_all is_inner a ≡ true → list_all is_inner b ≡ true → list_all is_inner (a ++ b) ≡ true
inner_append [] b h k = k
inner_append (x ∷ a) b h k =
    let parts = and_parts (is_inner x) (list_all is_inner a) h in
    rw parts.0 (inner_append a b parts.1 k)

pub inner_all : {X : Type 0} (text : X → List ℕ) (is_spelt : X → Type 0) → ((x : X) → is_spelt x → list_all is_inner (text x) ≡ true) → (xs : List X) → Spelt is_spelt xs → list_all is_inner (flat_map text xs) ≡ true
inner_all text is_spelt h [] s = refl
inner_all text is_spelt h (x ∷ xs) s = inner_append (text x) (flat_map text xs) (h x s.0) (inner_all text is_spelt h xs s.1)

pub line_by : (a b : List ℕ) → list_all is_inner a ≡ true → list_all is_inner b ≡ true → IsLine (a ++ (b ++ 10 ∷ []))
line_by a b h k = record { content = a ++ b; inner = inner_append a b h k; line_is = sym (append_assoc a b (10 ∷ [])) }

literal_inner : (v : ℕ) → v < 2 ^ 64 → (z : ℤ) → Names v z → list_all is_inner (literal_text z) ≡ true
literal_inner v low z s = signed_inner v v low low z (between_names v z s)

hint_inner : (n : ℕ) → IsHint n → list_all is_inner (hint_text n) ≡ true
hint_inner n s = decimal_inner n s.1

clause_line : (v : ℕ) → v < 2 ^ 64 → (clause : List ℤ) → Spelt (Names v) clause → IsLine (clause_text clause)
unfolding clause_text
clause_line v low clause s = line_by (codes "c" ++ flat_map literal_text clause) (codes " 0") (inner_all literal_text (Names v) (literal_inner v low) clause s) refl

step_line : (v : ℕ) → v < 2 ^ 64 → (step : ProofStep) → StepSpelt v step → IsLine (step_text step)
unfolding step_text
step_line v low step s =
    line_by (codes "s" ++ flat_map literal_text step.clause ++ codes " 0" ++ flat_map hint_text step.hints) (codes " 0")
    (inner_append (codes "s" ++ flat_map literal_text step.clause ++ codes " 0") (flat_map hint_text step.hints)
    (inner_append (codes "s" ++ flat_map literal_text step.clause) (codes " 0") (inner_all literal_text (Names v) (literal_inner v low) step.clause s.0) refl)
    (inner_all hint_text IsHint hint_inner step.hints s.1))
    refl

pub clause_format : (v : ℕ) → v < 2 ^ 64 → IsLineFormat (clause_at v) clause_text (Spelt (Names v))
clause_format v low = record { sound = clause_sound v low; complete = clause_complete v low; line = clause_line v low }

pub step_format : (v : ℕ) → v < 2 ^ 64 → IsLineFormat (step_at v) step_text (StepSpelt v)
step_format v low = record { sound = step_sound v low; complete = step_complete v low; line = step_line v low }

-- ---- the first line

pub record SizesSpelt (sizes : Sizes) : Type 0 where
  pub variables : sizes.variables ≤ 2 ^ 62
  pub clauses : sizes.clauses < 2 ^ 64
  pub steps : sizes.steps < 2 ^ 64

sizes_parts : (sizes : Sizes) (rest : List ℕ) → sizes_text sizes ++ rest ≡ codes "block " ++ (decimal sizes.variables ++ (codes " " ++ (decimal sizes.clauses ++ (codes " " ++ (decimal sizes.steps ++ (codes "\n" ++ rest))))))
unfolding sizes_text
sizes_parts sizes rest =
    let v = decimal sizes.variables in
    let c = decimal sizes.clauses in
    let s = decimal sizes.steps in
    append_assoc (codes "block " ++ v ++ codes " " ++ c ++ codes " " ++ s) (codes "\n") rest
    ∙ append_assoc (codes "block " ++ v ++ codes " " ++ c ++ codes " ") s (codes "\n" ++ rest)
    ∙ append_assoc (codes "block " ++ v ++ codes " " ++ c) (codes " ") (s ++ (codes "\n" ++ rest))
    ∙ append_assoc (codes "block " ++ v ++ codes " ") c (codes " " ++ (s ++ (codes "\n" ++ rest)))
    ∙ append_assoc (codes "block " ++ v) (codes " ") (c ++ (codes " " ++ (s ++ (codes "\n" ++ rest))))
    ∙ append_assoc (codes "block ") v (codes " " ++ (c ++ (codes " " ++ (s ++ (codes "\n" ++ rest)))))

sizes_sound : Sound sizes_at sizes_text SizesSpelt
unfolding sizes_at
sizes_sound list sizes rest e =
    let a = found (after (codes "block ") list) _ (sizes, rest) e in
    let v = found (number_at (2 ^ 62) a.first) _ (sizes, rest) a.then_is in
    let b = found (after (codes " ") v.first.1) _ (sizes, rest) v.then_is in
    let c = found (number_at (2 ^ 64 - 1) b.first) _ (sizes, rest) b.then_is in
    let d = found (after (codes " ") c.first.1) _ (sizes, rest) c.then_is in
    let s = found (number_at (2 ^ 64 - 1) d.first) _ (sizes, rest) d.then_is in
    let n = found (after (codes "\n") s.first.1) _ (sizes, rest) s.then_is in
    let same = same_read (record { variables = v.first.0; clauses = c.first.0; steps = s.first.0 }) sizes n.first rest n.then_is in
    let vn = number_sound (2 ^ 62) (omega arith) a.first v.first.0 v.first.1 v.first_is in
    let cn = number_sound (2 ^ 64 - 1) (omega arith) b.first c.first.0 c.first.1 c.first_is in
    let sn = number_sound (2 ^ 64 - 1) (omega arith) d.first s.first.0 s.first.1 s.first_is in (
      subst SizesSpelt same.0 (record { variables = vn.0; clauses = omega (arith, cn.0); steps = omega (arith, sn.0) }),
      ap (λ (q : Sizes). sizes_text q ++ rest) (sym same.0)
          ∙ sizes_parts (record { variables = v.first.0; clauses = c.first.0; steps = s.first.0 }) rest
          ∙ ap (λ (q : List ℕ). codes "block " ++ (decimal v.first.0 ++ (codes " " ++ (decimal c.first.0 ++ (codes " " ++ (decimal s.first.0 ++ q))))))
          (ap (λ (q : List ℕ). codes "\n" ++ q) (sym same.1) ∙ after_sound (codes "\n") s.first.1 n.first n.first_is)
          ∙ ap (λ (q : List ℕ). codes "block " ++ (decimal v.first.0 ++ (codes " " ++ (decimal c.first.0 ++ (codes " " ++ q))))) sn.1
          ∙ ap (λ (q : List ℕ). codes "block " ++ (decimal v.first.0 ++ (codes " " ++ (decimal c.first.0 ++ q)))) (after_sound (codes " ") c.first.1 d.first d.first_is)
          ∙ ap (λ (q : List ℕ). codes "block " ++ (decimal v.first.0 ++ (codes " " ++ q))) cn.1
          ∙ ap (λ (q : List ℕ). codes "block " ++ (decimal v.first.0 ++ q)) (after_sound (codes " ") v.first.1 b.first b.first_is)
          ∙ ap (λ (q : List ℕ). codes "block " ++ q) vn.1
          ∙ after_sound (codes "block ") list a.first a.first_is,
    )

space_apart : (list : List ℕ) → apart (32 ∷ list) ≡ true
unfolding is_digit
space_apart list = refl

lf_apart : (list : List ℕ) → apart (10 ∷ list) ≡ true
unfolding is_digit
lf_apart list = refl

sizes_complete : Complete sizes_at sizes_text SizesSpelt (λ rest. Unit {0})
unfolding sizes_at
sizes_complete sizes rest t f =
    let v = sizes.variables in
    let c = sizes.clauses in
    let s = sizes.steps in
    let end = codes "\n" ++ rest in
    let low : c ≤ 2 ^ 64 - 1 = let h = t.clauses in omega arith in
    let small : s ≤ 2 ^ 64 - 1 = let h = t.steps in omega arith in
    ap sizes_at (sizes_parts sizes rest)
    ∙ rw (number_complete (2 ^ 62) (omega arith) v (codes " " ++ (decimal c ++ (codes " " ++ (decimal s ++ end)))) t.variables (space_apart (decimal c ++ (codes " " ++ (decimal s ++ end)))))
    (rw (number_complete (2 ^ 64 - 1) (omega arith) c (codes " " ++ (decimal s ++ end)) low (space_apart (decimal s ++ end)))
    (rw (number_complete (2 ^ 64 - 1) (omega arith) s end small (lf_apart rest)) refl))

sizes_line : (sizes : Sizes) → SizesSpelt sizes → IsLine (sizes_text sizes)
unfolding sizes_text
sizes_line sizes t =
    let v = decimal sizes.variables in
    let c = decimal sizes.clauses in
    let s = decimal sizes.steps in
    let vn = decimal_inner sizes.variables (let h = t.variables in omega arith) in
    let cn = decimal_inner sizes.clauses t.clauses in
    let sn = decimal_inner sizes.steps t.steps in
    line_by (codes "block " ++ v ++ codes " " ++ c ++ codes " " ++ s) []
    (inner_append (codes "block " ++ v ++ codes " " ++ c ++ codes " ") s
    (inner_append (codes "block " ++ v ++ codes " " ++ c) (codes " ")
    (inner_append (codes "block " ++ v ++ codes " ") c
    (inner_append (codes "block " ++ v) (codes " ") (inner_append (codes "block ") v refl vn) refl) cn) refl) sn)
    refl

pub sizes_format : IsLineFormat sizes_at sizes_text SizesSpelt
sizes_format = record { sound = sizes_sound; complete = sizes_complete; line = sizes_line }
