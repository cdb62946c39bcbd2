-- Blocks that are read are those that are written, and where one is refused.
use Rattle.std.proofs.Common.{◌≡◌, ℕ, zero, suc, ◌^◌, ◌<◌, List, [], ◌∷◌, ◌++◌, length, Option, Some, None, refl, sym, ap, subst, ◌∙◌, arith, append_assoc}
use Rattle.std.specs.Prelude.{ℤ, All, Result, Ok, Err}
use Rattle.std.specs.List.{flat_map}
use Rattle.cnf_core.specs.Literals.{Names}
use Rattle.cnf_core.specs.declared.clauses.Cnf.{Cnf}
use Rattle.cnf_core.specs.declared.clauses.ProofStep.{ProofStep}
use Rattle.cnf_core.specs.declared.clauses.Derivation.{Derivation}
use Rattle.js_units.proofs.Reading.{Spelt, same_read}
use Rattle.proof_text.specs.declared.reading.Sizes.{Sizes}
use Rattle.proof_text.specs.Blocks.{clause_text, step_text, sizes_text, sizes_of, block_text, IsHint}
use Rattle.proof_text.specs.Reading.{clause_at, step_at, sizes_at}
use Rattle.proof_text.specs.Counted.{times, line_at, ◌>>=◌}
use Rattle.proof_text.specs.BlockReading.{body_at, block_at}
use Rattle.proof_text.specs.Answers.{spelling, HasSpelling}
use Rattle.proof_text.proofs.Whole.{line_whole}
use Rattle.proof_text.proofs.Refusing.{Refused, line_refused, first_part, second_part, TimesSpelt, times_sound, times_complete, times_refused, whole_times, some_times, none_some, ok_same}
use Rattle.proof_text.proofs.Listed.{StepSpelt}
use Rattle.proof_text.proofs.Formats.{clause_format, step_format, SizesSpelt, sizes_format}

-- ---- each of a list

pub spelt_of : {X : Type 0} (P : X → Type 0) (xs : List X) → All P xs → Spelt P xs
spelt_of P [] h = tt
spelt_of P (x ∷ xs) h = (h 0 x (omega arith), spelt_of P xs (λ k d l. h (suc k) d (omega (arith, l))))

pub all_of : {X : Type 0} (P : X → Type 0) (xs : List X) → Spelt P xs → All P xs
all_of P [] s k d l = absurd (omega (arith, l))
all_of P (x ∷ xs) s zero d l = s.0
all_of P (x ∷ xs) s (suc k) d l = all_of P xs s.1 k d (omega (arith, l))

spelt_map : {X : Type 0} (P Q : X → Type 0) → ((x : X) → P x → Q x) → (xs : List X) → Spelt P xs → Spelt Q xs
spelt_map P Q f [] s = tt
spelt_map P Q f (x ∷ xs) s = (f x s.0, spelt_map P Q f xs s.1)

spelt_both : {X : Type 0} (P Q R : X → Type 0) → ((x : X) → P x → Q x → R x) → (xs : List X) → Spelt P xs → Spelt Q xs → Spelt R xs
spelt_both P Q R f [] s t = tt
spelt_both P Q R f (x ∷ xs) s t = (f x s.0 t.0, spelt_both P Q R f xs s.1 t.1)

-- ---- a block, as its parts

abbrev pub Block : Type 0
Block = Cnf × Derivation

-- the clauses and the steps behind the first line
abbrev pub Body : Type 0
Body = List (List ℤ) × List ProofStep

abbrev pub body_text : Body → List ℕ
body_text b = flat_map clause_text b.0 ++ flat_map step_text b.1

abbrev pub BodySpelt : Sizes → Body → Type 0
BodySpelt s b = TimesSpelt (Spelt (Names s.variables)) s.clauses b.0 × TimesSpelt (StepSpelt s.variables) s.steps b.1

low_of : (s : Sizes) → SizesSpelt s → s.variables < 2 ^ 64
low_of s h = let k = h.variables in omega arith

sizes_in : (b : Block) → HasSpelling b → SizesSpelt (sizes_of b.0 b.1)
sizes_in b h = record { variables = h.variables; clauses = h.clauses; steps = h.steps }

body_in : (b : Block) → HasSpelling b → BodySpelt (sizes_of b.0 b.1) (b.0.clauses, b.1.steps)
body_in b h =
    let v = b.0.variables in (
      (refl, spelt_map (All (Names v)) (Spelt (Names v)) (λ c a. spelt_of (Names v) c a) b.0.clauses (spelt_of (All (Names v)) b.0.clauses h.clauses_within)),
      (
        refl,
        spelt_both (λ (s : ProofStep). All (Names v) s.clause) (λ (s : ProofStep). All IsHint s.hints) (StepSpelt v) (λ s a c. (spelt_of (Names v) s.clause a, spelt_of IsHint s.hints c)) b.1.steps
            (spelt_of (λ (s : ProofStep). All (Names v) s.clause) b.1.steps h.steps_within) (spelt_of (λ (s : ProofStep). All IsHint s.hints) b.1.steps h.hints),
      ),
    )

abbrev pub block_of : Sizes → Body → Block
block_of s b = (record { variables = s.variables; clauses = b.0 }, record { steps = b.1 })

spelt_from : (s : Sizes) (b : Body) → SizesSpelt s → BodySpelt s b → HasSpelling (block_of s b)
spelt_from s b h k =
    let v = s.variables in record {
      variables = h.variables;
      clauses = subst (λ (n : ℕ). n < 2 ^ 64) (sym k.0.0) h.clauses;
      steps = subst (λ (n : ℕ). n < 2 ^ 64) (sym k.1.0) h.steps;
      clauses_within = all_of (All (Names v)) b.0 (spelt_map (Spelt (Names v)) (All (Names v)) (λ c a. all_of (Names v) c a) b.0 k.0.1);
      steps_within = all_of (λ (s : ProofStep). All (Names v) s.clause) b.1 (spelt_map (StepSpelt v) (λ (s : ProofStep). All (Names v) s.clause) (λ s a. all_of (Names v) s.clause a.0) b.1 k.1.1);
      hints = all_of (λ (s : ProofStep). All IsHint s.hints) b.1 (spelt_map (StepSpelt v) (λ (s : ProofStep). All IsHint s.hints) (λ s a. all_of IsHint s.hints a.1) b.1 k.1.1);
    }

text_parts : (b : Block) → spelling b ≡ sizes_text (sizes_of b.0 b.1) ++ body_text (b.0.clauses, b.1.steps)
unfolding block_text
text_parts b = append_assoc (sizes_text (sizes_of b.0 b.1)) (flat_map clause_text b.0.clauses) (flat_map step_text b.1.steps)

sizes_back : (s : Sizes) (b : Body) → BodySpelt s b → sizes_of (block_of s b).0 (block_of s b).1 ≡ s
sizes_back s b k = ap (λ (n : ℕ). record { variables = s.variables; clauses = n; steps = length b.1 }) k.0.0 ∙ ap (λ (n : ℕ). record { variables = s.variables; clauses = s.clauses; steps = n }) k.1.0

text_from : (s : Sizes) (b : Body) → BodySpelt s b → spelling (block_of s b) ≡ sizes_text s ++ body_text b
text_from s b k = text_parts (block_of s b) ∙ ap (λ (q : Sizes). sizes_text q ++ body_text b) (sizes_back s b k)

-- ---- what is read

abbrev pub Read : Type 0
Read = Result (Block × List ℕ) (List ℕ)

pub ok_block : (a b : Block × List ℕ) → ◌≡◌ {A = Read} (Ok a) (Ok b) → a ≡ b
ok_block a b e = cc

sizes_first : (list : List ℕ) (o : Option (Sizes × List ℕ)) (q : Sizes × List ℕ) → line_at o list ≡ Ok q → o ≡ Some q
sizes_first list None q e = absurd cc
sizes_first list (Some r) q e = cc

-- what a chain of readings found, its first reading found
record Went {A B : Type 0} (o : Result A (List ℕ)) (f : A → Result B (List ℕ)) (y : B) : Type 0 where
  first : A
  first_is : o ≡ Ok first
  then_is : f first ≡ Ok y

went : {A B : Type 0} (o : Result A (List ℕ)) (f : A → Result B (List ℕ)) (y : B) → o >>= f ≡ Ok y → Went o f y
went (Err at) f y e = absurd cc
went (Ok x) f y e = record { first = x; first_is = refl; then_is = e }

pub block_sound : (list : List ℕ) (b : Block) (rest : List ℕ) → block_at list ≡ Ok (b, rest) → HasSpelling b × (spelling b ++ rest ≡ list)
unfolding block_at
block_sound list b rest e =
    let a = went (line_at (sizes_at list) list) _ (b, rest) e in
    let s = a.first.0 in
    let c = went (times (clause_at s.variables) s.clauses a.first.1) _ (b, rest) a.then_is in
    let d = went (times (step_at s.variables) s.steps c.first.1) _ (b, rest) c.then_is in
    let sizes = sizes_format.sound list s a.first.1 (sizes_first list (sizes_at list) a.first a.first_is) in
    let low = low_of s sizes.0 in
    let clauses = times_sound (clause_at s.variables) clause_text (Spelt (Names s.variables)) (clause_format s.variables low).sound s.clauses a.first.1 c.first c.first_is in
    let steps = times_sound (step_at s.variables) step_text (StepSpelt s.variables) (step_format s.variables low).sound s.steps c.first.1 d.first d.first_is in
    let body : Body = (c.first.0, d.first.0) in
    let spelt : BodySpelt s body = (clauses.0, steps.0) in
    let one : Block × List ℕ = (block_of s body, d.first.1) in
    let other : Block × List ℕ = (b, rest) in
    let same : one ≡ other = ok_block one other d.then_is in (
      subst (λ (q : Block × List ℕ). HasSpelling q.0) same (spelt_from s body sizes.0 spelt),
      ap (λ (q : Block × List ℕ). spelling q.0 ++ q.1) (sym same)
          ∙ ap (λ (q : List ℕ). q ++ d.first.1) (text_from s body spelt)
          ∙ append_assoc (sizes_text s) (body_text body) d.first.1
          ∙ ap (λ (q : List ℕ). sizes_text s ++ q) (append_assoc (flat_map clause_text c.first.0) (flat_map step_text d.first.0) d.first.1 ∙ ap (λ (q : List ℕ). flat_map clause_text c.first.0 ++ q) steps.1 ∙ clauses.1)
          ∙ sizes.1,
    )

-- ---- what is written

body_complete : (s : Sizes) → SizesSpelt s → (b : Body) (rest : List ℕ) → BodySpelt s b → body_at s (body_text b ++ rest) ≡ Ok (block_of s b, rest)
body_complete s h b rest k =
    let low = low_of s h in
    ap (body_at s) (append_assoc (flat_map clause_text b.0) (flat_map step_text b.1) rest)
    ∙ ap (λ (q : Result (List (List ℤ) × List ℕ) (List ℕ)). q >>= λ clauses. times (step_at s.variables) s.steps clauses.1 >>= λ steps. Ok ((record { variables = s.variables; clauses = clauses.0 }, record { steps = steps.0 }), steps.1))
    (times_complete (clause_at s.variables) clause_text (Spelt (Names s.variables)) (clause_format s.variables low).complete s.clauses b.0 (flat_map step_text b.1 ++ rest) k.0)
    ∙ ap (λ (q : Result (List ProofStep × List ℕ) (List ℕ)). q >>= λ steps. Ok ((record { variables = s.variables; clauses = b.0 }, record { steps = steps.0 }), steps.1))
    (times_complete (step_at s.variables) step_text (StepSpelt s.variables) (step_format s.variables low).complete s.steps b.1 rest k.1)

block_then : (list : List ℕ) (s : Sizes) (rest : List ℕ) → sizes_at list ≡ Some (s, rest) → block_at list ≡ body_at s rest
unfolding block_at
block_then list s rest e = ap (λ (q : Option (Sizes × List ℕ)). line_at q list >>= λ sizes. body_at sizes.0 sizes.1) e

pub block_complete : (b : Block) (rest : List ℕ) → HasSpelling b → block_at (spelling b ++ rest) ≡ Ok (b, rest)
block_complete b rest h =
    let s = sizes_of b.0 b.1 in
    let body : Body = (b.0.clauses, b.1.steps) in
    ap block_at (ap (λ (q : List ℕ). q ++ rest) (text_parts b) ∙ append_assoc (sizes_text s) (body_text body) rest)
    ∙ block_then (sizes_text s ++ (body_text body ++ rest)) s (body_text body ++ rest) (sizes_format.complete s (body_text body ++ rest) (sizes_in b h) tt)
    ∙ body_complete s (sizes_in b h) body rest (body_in b h)

-- ---- where one is refused

err_block : (a b : List ℕ) → ◌≡◌ {A = Read} (Err a) (Err b) → a ≡ b
err_block a b e = cc

some_body : (s : Sizes) → (b : Body) × BodySpelt s b
some_body s =
    let c = some_times (Spelt (Names s.variables)) [] tt s.clauses in
    let d = some_times (StepSpelt s.variables) (record { clause = []; hints = [] }) (tt, tt) s.steps in
    ((c.0, d.0), (c.1, d.1))

some_block : (s : Sizes) → SizesSpelt s → (b : Block) × HasSpelling b × (sizes_of b.0 b.1 ≡ s)
some_block s h = let b = some_body s in (block_of s b.0, spelt_from s b.0 h b.1, sizes_back s b.0 b.1)

not_err : {A : Type 0} (o : Result A (List ℕ)) (x : A) (at : List ℕ) → o ≡ Ok x → o ≡ Err at → ⊥
not_err o x at e h = let k : Ok x ≡ Err at = sym e ∙ h in absurd cc

no_sizes : (list : List ℕ) → sizes_at list ≡ None → Refused spelling HasSpelling list list
no_sizes list e =
    first_part spelling HasSpelling sizes_text SizesSpelt (λ b. sizes_of b.0 b.1) (λ b. body_text (b.0.clauses, b.1.steps))
    (λ b h. (text_parts b, sizes_in b h)) some_block list list
    (λ s behind h k. none_some (sizes_at list) (s, behind) e (ap sizes_at (sym k) ∙ sizes_format.complete s behind h tt))
    (line_refused sizes_at sizes_text SizesSpelt sizes_format (record { variables = 0; clauses = 0; steps = 0 }) (record { variables = omega arith; clauses = omega arith; steps = omega arith }) list e)

clauses_same : (v : ℕ) → v < 2 ^ 64 → (n : ℕ) (a b : List (List ℤ)) (x y : List ℕ) → TimesSpelt (Spelt (Names v)) n a → TimesSpelt (Spelt (Names v)) n b → flat_map clause_text a ++ x ≡ flat_map clause_text b ++ y → (a ≡ b) × (x ≡ y)
clauses_same v low n a b x y s t e =
    let one : List (List ℤ) × List ℕ = (a, x) in
    let other : List (List ℤ) × List ℕ = (b, y) in
    let f = (clause_format v low).complete in
    let same : one ≡ other = ok_same (List (List ℤ) × List ℕ) one other (sym (times_complete (clause_at v) clause_text (Spelt (Names v)) f n a x s) ∙ ap (times (clause_at v) n) e ∙ times_complete (clause_at v) clause_text (Spelt (Names v)) f n b y t) in
    (ap (λ (q : List (List ℤ) × List ℕ). q.0) same, ap (λ (q : List (List ℤ) × List ℕ). q.1) same)

-- a clause is wrong
wrong_clauses : (s : Sizes) → SizesSpelt s → (list rest : List ℕ) → times (clause_at s.variables) s.clauses list ≡ Err rest → Refused body_text (BodySpelt s) list rest
wrong_clauses s h list rest e =
    let v = s.variables in
    let f = clause_format v (low_of s h) in
    first_part body_text (BodySpelt s) (flat_map clause_text) (TimesSpelt (Spelt (Names v)) s.clauses) (λ b. b.0) (λ b. flat_map step_text b.1)
    (λ b k. (refl, k.0))
    (λ c k. ((c, (some_body s).0.1), (k, (some_body s).1.1), refl))
    list rest
    (λ c behind k m. not_err (times (clause_at v) s.clauses list) (c, behind) rest (ap (times (clause_at v) s.clauses) (sym m) ∙ times_complete (clause_at v) clause_text (Spelt (Names v)) f.complete s.clauses c behind k) e)
    (times_refused (clause_at v) clause_text (Spelt (Names v)) f [] tt s.clauses list rest e)

-- a step is wrong, behind these clauses
wrong_steps : (s : Sizes) → SizesSpelt s → (c : List (List ℤ)) → TimesSpelt (Spelt (Names s.variables)) s.clauses c → (list rest : List ℕ) → times (step_at s.variables) s.steps list ≡ Err rest → Refused body_text (BodySpelt s) (flat_map clause_text c ++ list) rest
wrong_steps s h c k list rest e =
    let v = s.variables in
    let low = low_of s h in
    second_part body_text (BodySpelt s) (flat_map clause_text) (flat_map step_text) (TimesSpelt (StepSpelt v) s.steps) c (λ b. b.0) (λ b. b.1)
    s.clauses (whole_times (clause_at v) clause_text (Spelt (Names v)) (clause_format v low) s.clauses c k)
    (λ b m. refl)
    (λ b m same. m.1)
    (λ y m. ((c, y), (k, m), refl))
    (λ b left m same. clauses_same v low s.clauses b.0 c (flat_map step_text b.1) left m.0 k same)
    list rest
    (times_refused (step_at v) step_text (StepSpelt v) (step_format v low) (record { clause = []; hints = [] }) (tt, tt) s.steps list rest e)

body_steps : (s : Sizes) → SizesSpelt s → (c : List (List ℤ)) (left list rest : List ℕ) → TimesSpelt (Spelt (Names s.variables)) s.clauses c → flat_map clause_text c ++ left ≡ list → (o : Result (List ProofStep × List ℕ) (List ℕ)) → times (step_at s.variables) s.steps left ≡ o → ◌≡◌ {A = Read} (o >>= λ steps. Ok ((record { variables = s.variables; clauses = c }, record { steps = steps.0 }), steps.1)) (Err rest) → Refused body_text (BodySpelt s) list rest
body_steps s h c left list rest k m (Ok q) e f = absurd cc
body_steps s h c left list rest k m (Err at) e f =
    subst (λ (q : List ℕ). Refused body_text (BodySpelt s) q rest) m (wrong_steps s h c k left rest (e ∙ ap (λ (q : List ℕ). Err q) (err_block at rest f)))

body_refused : (s : Sizes) → SizesSpelt s → (list rest : List ℕ) (o : Result (List (List ℤ) × List ℕ) (List ℕ)) → times (clause_at s.variables) s.clauses list ≡ o → ◌≡◌ {A = Read} (o >>= λ clauses. times (step_at s.variables) s.steps clauses.1 >>= λ steps. Ok ((record { variables = s.variables; clauses = clauses.0 }, record { steps = steps.0 }), steps.1)) (Err rest) → Refused body_text (BodySpelt s) list rest
body_refused s h list rest (Err at) e f = wrong_clauses s h list rest (e ∙ ap (λ (q : List ℕ). Err q) (err_block at rest f))
body_refused s h list rest (Ok q) e f =
    let v = s.variables in
    let c = times_sound (clause_at v) clause_text (Spelt (Names v)) (clause_format v (low_of s h)).sound s.clauses list q e in
    body_steps s h q.0 q.1 list rest c.0 c.1 (times (step_at v) s.steps q.1) refl f

sizes_same : (a b : Sizes) (x y : List ℕ) → SizesSpelt a → SizesSpelt b → sizes_text a ++ x ≡ sizes_text b ++ y → (a ≡ b) × (x ≡ y)
sizes_same a b x y s t e = same_read a b x y (sym (sizes_format.complete a x s tt) ∙ ap sizes_at e ∙ sizes_format.complete b y t tt)

wrong_body : (s : Sizes) → SizesSpelt s → (list rest : List ℕ) → Refused body_text (BodySpelt s) list rest → Refused spelling HasSpelling (sizes_text s ++ list) rest
wrong_body s h list rest r =
    second_part spelling HasSpelling sizes_text body_text (BodySpelt s) s (λ b. sizes_of b.0 b.1) (λ b. (b.0.clauses, b.1.steps))
    1 (line_whole (sizes_text s) (sizes_format.line s h))
    (λ b k. text_parts b)
    (λ b k same. subst (λ (q : Sizes). BodySpelt q (b.0.clauses, b.1.steps)) same (body_in b k))
    (λ y k. (block_of s y, spelt_from s y h k, text_from s y k))
    (λ b left k same. sizes_same (sizes_of b.0 b.1) s (body_text (b.0.clauses, b.1.steps)) left (sizes_in b k) h same)
    list rest r

none_then : (list : List ℕ) → sizes_at list ≡ None → block_at list ≡ Err list
unfolding block_at
none_then list e = ap (λ (q : Option (Sizes × List ℕ)). line_at q list >>= λ sizes. body_at sizes.0 sizes.1) e

refused_by : (list rest : List ℕ) (o : Option (Sizes × List ℕ)) → sizes_at list ≡ o → block_at list ≡ Err rest → Refused spelling HasSpelling list rest
refused_by list rest None e f = subst (λ (q : List ℕ). Refused spelling HasSpelling list q) (err_block list rest (sym (none_then list e) ∙ f)) (no_sizes list e)
refused_by list rest (Some q) e f =
    let k = sizes_format.sound list q.0 q.1 e in
    subst (λ (p : List ℕ). Refused spelling HasSpelling p rest) k.1
    (wrong_body q.0 k.0 q.1 rest (body_refused q.0 k.0 q.1 rest (times (clause_at q.0.variables) q.0.clauses q.1) refl (sym (block_then list q.0 q.1 e) ∙ f)))

-- where a block is refused, no block has the line there
pub block_refused : (list rest : List ℕ) → block_at list ≡ Err rest → Refused spelling HasSpelling list rest
block_refused list rest e = refused_by list rest (sizes_at list) refl e
