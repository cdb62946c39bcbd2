-- Clauses and steps that are read are those that are written.
use Rattle.std.proofs.Common.{◌≡◌, ℕ, zero, suc, ◌-◌, ◌^◌, ◌<◌, ◌≤◌, true, List, ◌∷◌, ◌++◌, length, Option, Some, None, refl, sym, ap, subst, ◌∙◌, arith, append_assoc}
use Rattle.std.specs.Prelude.{ℤ, pos, negsuc, codes, decimal, unsigned_abs}
use Rattle.std.specs.List.{flat_map}
use Rattle.std.specs.Fmt.{signed_decimal}
use Rattle.cnf_core.specs.Literals.{Names}
use Rattle.cnf_core.specs.declared.clauses.ProofStep.{ProofStep}
use Rattle.js_units.specs.Characters.{is_digit}
use Rattle.js_units.specs.Reading.{many}
use Rattle.js_units.proofs.Reading.{same_read, shortens, Shortens, Sound, Spelt, Complete, Begins, many_sound, many_complete}
use Rattle.proof_text.specs.Numbers.{IsBetween, number_at, not_zero, signed_at}
use Rattle.proof_text.specs.Lines.{after, ◌>>=◌}
use Rattle.proof_text.specs.Blocks.{literal_text, hint_text, clause_text, step_text, IsHint}
use Rattle.proof_text.specs.Reading.{named, literal_at, hint_at, closing, clause_at, hints_at, step_at}
use Rattle.proof_text.proofs.Parts.{after_sound, after_complete, found}
use Rattle.proof_text.proofs.Numerals.{apart, number_sound, number_complete, not_zero_of, not_zero_is, signed_sound, signed_complete}

-- ---- several, then a word

closing_of : {X : Type 0} (word : List ℕ) (x : X) (left : List ℕ) (y : X) (rest : List ℕ) → closing word (x, left) ≡ Some (y, rest) → (x ≡ y) × (word ++ rest ≡ left)
closing_of word x left y rest e =
    let f = found (after word left) (λ q. Some (x, q)) (y, rest) e in
    let same = same_read x y f.first rest f.then_is in
    (same.0, after_sound word left rest (f.first_is ∙ ap (λ (q : List ℕ). Some q) same.1))

closing_is : {X : Type 0} (word : List ℕ) (x : X) (rest : List ℕ) → closing word (x, word ++ rest) ≡ Some (x, rest)
closing_is word x rest = ap (λ q. q >>= λ r. Some (x, r)) (after_complete word rest)

-- items up to a word, as a list
pub listed_sound : {X : Type 0} (take : List ℕ → Option (X × List ℕ)) (text : X → List ℕ) (is_spelt : X → Type 0) → Sound take text is_spelt → (word list : List ℕ) (xs : List X) (rest : List ℕ) → closing word (many take list) ≡ Some (xs, rest) → Spelt is_spelt xs × (flat_map text xs ++ (word ++ rest) ≡ list)
listed_sound take text is_spelt h word list xs rest e =
    let c = closing_of word (many take list).0 (many take list).1 xs rest e in
    let m = many_sound take text is_spelt h list in
    (subst (λ q. Spelt is_spelt q) c.0 m.0, ap (λ (q : List ℕ). flat_map text xs ++ q) c.1 ∙ ap (λ q. flat_map text q ++ (many take list).1) (sym c.0) ∙ m.1)

pub listed_complete : {X : Type 0} (take : List ℕ → Option (X × List ℕ)) (text : X → List ℕ) (is_spelt : X → Type 0) (follows : List ℕ → Type 0) → Shortens take → Complete take text is_spelt follows → Begins text is_spelt follows → (word : List ℕ) (xs : List X) (rest : List ℕ) → Spelt is_spelt xs → follows (word ++ rest) → take (word ++ rest) ≡ None → closing word (many take (flat_map text xs ++ (word ++ rest))) ≡ Some (xs, rest)
listed_complete take text is_spelt follows short h b word xs rest s f e =
    ap (closing word) (many_complete take text is_spelt follows short h b xs (word ++ rest) s f e) ∙ closing_is word xs rest

-- ---- literals

abbrev pub Apart : List ℕ → Type 0
Apart rest = apart rest ≡ true

named_of : (v : ℕ) (o : Option (ℤ × List ℕ)) (z : ℤ) (rest : List ℕ) → named o ≡ Some (z, rest) → o ≡ Some (z, rest)
named_of v None z rest e = absurd cc
named_of v (Some (pos zero, r)) z rest e = absurd cc
named_of v (Some (pos (suc n), r)) z rest e = e
named_of v (Some (negsuc n, r)) z rest e = e

named_not : (z : ℤ) (rest r : List ℕ) (y : ℤ) → named (Some (z, rest)) ≡ Some (y, r) → 1 ≤ unsigned_abs z
named_not (pos zero) rest r y e = absurd cc
named_not (pos (suc n)) rest r y e = omega arith
named_not (negsuc n) rest r y e = omega arith

names_between : (v : ℕ) (z : ℤ) → IsBetween v v z → 1 ≤ unsigned_abs z → Names v z
names_between v (pos n) b h = (h, b)
names_between v (negsuc n) b h = (h, omega (arith, b))

pub between_names : (v : ℕ) (z : ℤ) → Names v z → IsBetween v v z
between_names v (pos n) h = h.1
between_names v (negsuc n) h = omega (arith, h.1)

named_is : (z : ℤ) (rest : List ℕ) → 1 ≤ unsigned_abs z → named (Some (z, rest)) ≡ Some (z, rest)
named_is (pos zero) rest h = absurd (omega (arith, h))
named_is (pos (suc n)) rest h = refl
named_is (negsuc n) rest h = refl

pub literal_sound : (v : ℕ) → v < 2 ^ 64 → Sound (literal_at v) literal_text (Names v)
unfolding literal_at
literal_sound v low list z rest e =
    let f = found (after (codes " ") list) (λ q. named (signed_at v v q)) (z, rest) e in
    let k = named_of v (signed_at v v f.first) z rest f.then_is in
    let s = signed_sound v v low low f.first z rest k in
    (names_between v z s.0 (named_not z rest rest z (sym (ap named k) ∙ f.then_is)), ap (λ (q : List ℕ). 32 ∷ q) s.1 ∙ after_sound (codes " ") list f.first f.first_is)

pub literal_complete : (v : ℕ) → v < 2 ^ 64 → Complete (literal_at v) literal_text (Names v) Apart
unfolding literal_at
literal_complete v low z rest s a =
    ap (λ q. q >>= λ r. named (signed_at v v r)) (after_complete (codes " ") (signed_decimal z ++ rest))
    ∙ ap named (signed_complete v v low low z rest (between_names v z s) a) ∙ named_is z rest s.0

space_apart : (list : List ℕ) → apart (32 ∷ list) ≡ true
unfolding is_digit
space_apart list = refl

pub literal_begins : (v : ℕ) → Begins literal_text (Names v) Apart
literal_begins v z rest s = space_apart (signed_decimal z ++ rest)

literal_some : (z : ℤ) → 0 < length (literal_text z)
literal_some z = omega arith

pub literal_shortens : (v : ℕ) → v < 2 ^ 64 → Shortens (literal_at v)
literal_shortens v low = shortens (literal_at v) literal_text (Names v) (literal_sound v low) literal_some

-- ---- hints

pub hint_sound : Sound hint_at hint_text IsHint
unfolding hint_at
hint_sound list n rest e =
    let f = found (after (codes " ") list) (λ q. not_zero (number_at (2 ^ 64 - 1) q)) (n, rest) e in
    let k = not_zero_of (number_at (2 ^ 64 - 1) f.first) n rest f.then_is in
    let s = number_sound (2 ^ 64 - 1) (omega arith) f.first n rest k.0 in
    ((k.1, omega (arith, s.0)), ap (λ (q : List ℕ). 32 ∷ q) s.1 ∙ after_sound (codes " ") list f.first f.first_is)

pub hint_complete : Complete hint_at hint_text IsHint Apart
unfolding hint_at
hint_complete n rest s a =
    ap (λ q. q >>= λ r. not_zero (number_at (2 ^ 64 - 1) r)) (after_complete (codes " ") (decimal n ++ rest))
    ∙ ap not_zero (number_complete (2 ^ 64 - 1) (omega arith) n rest (let h = s.1 in omega arith) a) ∙ not_zero_is n rest s.0

pub hint_shortens : Shortens hint_at
hint_shortens = shortens hint_at hint_text IsHint hint_sound (λ n. omega arith)

-- ---- lines of literals

zero_ends : (v : ℕ) (rest : List ℕ) → literal_at v (32 ∷ 48 ∷ rest) ≡ None
unfolding literal_at signed_at number_at
zero_ends v rest = refl

hints_end : (rest : List ℕ) → hint_at (32 ∷ 48 ∷ rest) ≡ None
unfolding hint_at number_at
hints_end rest = refl

pub clause_sound : (v : ℕ) → v < 2 ^ 64 → Sound (clause_at v) clause_text (Spelt (Names v))
unfolding clause_at clause_text
clause_sound v low list clause rest e =
    let f = found (after (codes "c") list) (λ q. closing (codes " 0\n") (many (literal_at v) q)) (clause, rest) e in
    let l = listed_sound (literal_at v) literal_text (Names v) (literal_sound v low) (codes " 0\n") f.first clause rest f.then_is in
    (l.0, ap (λ (q : List ℕ). 99 ∷ q) (append_assoc (flat_map literal_text clause) (codes " 0\n") rest ∙ l.1) ∙ after_sound (codes "c") list f.first f.first_is)

pub clause_complete : (v : ℕ) → v < 2 ^ 64 → Complete (clause_at v) clause_text (Spelt (Names v)) (λ rest. Unit {0})
unfolding clause_at clause_text
clause_complete v low clause rest s f =
    ap (λ (q : List ℕ). clause_at v (99 ∷ q)) (append_assoc (flat_map literal_text clause) (codes " 0\n") rest)
    ∙ ap (λ q. q >>= λ r. closing (codes " 0\n") (many (literal_at v) r)) (after_complete (codes "c") (flat_map literal_text clause ++ (codes " 0\n" ++ rest)))
    ∙ listed_complete (literal_at v) literal_text (Names v) Apart (literal_shortens v low) (literal_complete v low) (literal_begins v) (codes " 0\n") clause rest s (space_apart (48 ∷ 10 ∷ rest)) (zero_ends v (10 ∷ rest))

-- ---- lines of steps

abbrev pub StepSpelt : ℕ → ProofStep → Type 0
StepSpelt v step = Spelt (Names v) step.clause × Spelt IsHint step.hints

hints_of : (clause : List ℤ) (list : List ℕ) (step : ProofStep) (rest : List ℕ) → hints_at clause list ≡ Some (step, rest) → (step.clause ≡ clause) × Spelt IsHint step.hints × (flat_map hint_text step.hints ++ (codes " 0\n" ++ rest) ≡ list)
unfolding hints_at
hints_of clause list step rest e =
    let f = found (closing (codes " 0\n") (many hint_at list)) (λ q. Some (record { clause = clause; hints = q.0 }, q.1)) (step, rest) e in
    let same = same_read (record { clause = clause; hints = f.first.0 }) step f.first.1 rest f.then_is in
    let l = listed_sound hint_at hint_text IsHint hint_sound (codes " 0\n") list f.first.0 f.first.1 f.first_is in (
      ap (λ (q : ProofStep). q.clause) (sym same.0),
      subst (λ (q : ProofStep). Spelt IsHint q.hints) same.0 l.0,
      ap (λ (q : ProofStep). flat_map hint_text q.hints ++ (codes " 0\n" ++ rest)) (sym same.0) ∙ ap (λ (q : List ℕ). flat_map hint_text f.first.0 ++ (codes " 0\n" ++ q)) (sym same.1) ∙ l.1,
    )

step_parts : (step : ProofStep) (rest : List ℕ) → step_text step ++ rest ≡ 115 ∷ (flat_map literal_text step.clause ++ (codes " 0" ++ (flat_map hint_text step.hints ++ (codes " 0\n" ++ rest))))
unfolding step_text
step_parts step rest =
    let a = flat_map literal_text step.clause in
    let h = flat_map hint_text step.hints in
    ap (λ (q : List ℕ). 115 ∷ q)
    (append_assoc (a ++ codes " 0" ++ h) (codes " 0\n") rest
    ∙ append_assoc (a ++ codes " 0") h (codes " 0\n" ++ rest)
    ∙ append_assoc a (codes " 0") (h ++ (codes " 0\n" ++ rest)))

pub step_sound : (v : ℕ) → v < 2 ^ 64 → Sound (step_at v) step_text (StepSpelt v)
unfolding step_at
step_sound v low list step rest e =
    let f = found (after (codes "s") list) (λ q. closing (codes " 0") (many (literal_at v) q) >>= λ r. hints_at r.0 r.1) (step, rest) e in
    let g = found (closing (codes " 0") (many (literal_at v) f.first)) (λ r. hints_at r.0 r.1) (step, rest) f.then_is in
    let l = listed_sound (literal_at v) literal_text (Names v) (literal_sound v low) (codes " 0") f.first g.first.0 g.first.1 g.first_is in
    let h = hints_of g.first.0 g.first.1 step rest g.then_is in (
      (subst (λ (q : List ℤ). Spelt (Names v) q) (sym h.0) l.0, h.1),
      step_parts step rest
          ∙ ap (λ (q : List ℤ). 115 ∷ (flat_map literal_text q ++ (codes " 0" ++ (flat_map hint_text step.hints ++ (codes " 0\n" ++ rest))))) h.0
          ∙ ap (λ (q : List ℕ). 115 ∷ (flat_map literal_text g.first.0 ++ (codes " 0" ++ q))) h.2
          ∙ ap (λ (q : List ℕ). 115 ∷ q) l.1
          ∙ after_sound (codes "s") list f.first f.first_is,
    )

hints_only : (step : ProofStep) (rest : List ℕ) → Spelt IsHint step.hints → hints_at step.clause (flat_map hint_text step.hints ++ (codes " 0\n" ++ rest)) ≡ Some (step, rest)
unfolding hints_at
hints_only step rest s =
    ap (λ q. q >>= λ r. Some (record { clause = step.clause; hints = r.0 }, r.1))
    (listed_complete hint_at hint_text IsHint Apart hint_shortens hint_complete (λ n r t. space_apart (decimal n ++ r)) (codes " 0\n") step.hints rest s (space_apart (48 ∷ 10 ∷ rest)) (hints_end (10 ∷ rest)))

pub step_complete : (v : ℕ) → v < 2 ^ 64 → Complete (step_at v) step_text (StepSpelt v) (λ rest. Unit {0})
unfolding step_at
step_complete v low step rest s f =
    let h = flat_map hint_text step.hints ++ (codes " 0\n" ++ rest) in
    ap (step_at v) (step_parts step rest)
    ∙ ap (λ q. q >>= λ r. closing (codes " 0") (many (literal_at v) r) >>= λ r. hints_at r.0 r.1) (after_complete (codes "s") (flat_map literal_text step.clause ++ (codes " 0" ++ h)))
    ∙ ap (λ q. q >>= λ r. hints_at r.0 r.1) (listed_complete (literal_at v) literal_text (Names v) Apart (literal_shortens v low) (literal_complete v low) (literal_begins v) (codes " 0") step.clause h s.0 (space_apart (48 ∷ h)) (zero_ends v h))
    ∙ hints_only step rest s.1
