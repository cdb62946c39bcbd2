-- Words, numbers and names that are read are those that are written.
use Rattle.std.proofs.Common.{◌≡◌, ℕ, ◌-◌, ◌^◌, ◌<◌, ◌≤◌, zero, suc, Bool, true, false, cond, List, [], ◌∷◌, ◌++◌, Option, Some, None, refl, sym, ap, ◌∙◌, arith}
use Rattle.std.specs.Prelude.{◌==◌, ◌&&◌, not, decimal}
use Rattle.std.specs.List.{list_all, flat_map}
use Rattle.std.proofs.lemmas.Bool.{eqb-true, ne_eqb, and_parts}
use Rattle.js_units.specs.Characters.{is_digit, is_name_start, is_name_part}
use Rattle.js_units.specs.Reading.{many}
use Rattle.js_units.proofs.Reading.{Sound, Spelt, Complete, Shortens, shortens, same_read, many_sound, many_complete}
use Rattle.path_core.specs.Names.{is_name, is_word, is_reserved}
use Rattle.proof_text.specs.Lines.{after}
use Rattle.proof_text.specs.Numbers.{not_zero}
use Rattle.proof_text.proofs.Parts.{after_sound}
use Rattle.proof_text.proofs.Numerals.{apart, number_sound, number_complete, not_zero_of, not_zero_is}
use Rattle.report_text.specs.Lines.{ended_text}
use Rattle.report_text.specs.Parts.{chosen, one_of, short_at, plus_at, part_at, named, name_at}

-- ---- words

-- each word of the table spells what it says
abbrev pub IsTable : {X : Type 0} → (X → List ℕ) → List (List ℕ × X) → Type 0
IsTable text table = Spelt (λ e. text e.1 ≡ e.0) table

word_by : {X : Type 0} (text : X → List ℕ) (w : List ℕ) (x : X) (list : List ℕ) (o : Option (List ℕ)) (other : Option (X × List ℕ)) (y : X) (rest : List ℕ) → text x ≡ w → after w list ≡ o → (other ≡ Some (y, rest) → text y ++ rest ≡ list) → chosen x o other ≡ Some (y, rest) → text y ++ rest ≡ list
word_by text w x list None other y rest t a go e = go e
word_by text w x list (Some r) other y rest t a go e =
    let same = same_read x y r rest e in
    rw (← same.0, ← same.1, t) (after_sound w list r a)

pub word_sound : {X : Type 0} (text : X → List ℕ) (table : List (List ℕ × X)) → IsTable text table → (list : List ℕ) (x : X) (rest : List ℕ) → one_of table list ≡ Some (x, rest) → text x ++ rest ≡ list
word_sound text [] t list x rest e = absurd cc
word_sound text (w ∷ ws) t list x rest e = word_by text w.0 w.1 list (after w.0 list) (one_of ws list) x rest t.0 refl (λ k. word_sound text ws t.1 list x rest k) e

-- ---- numbers

abbrev pub Apart : List ℕ → Type 0
Apart rest = apart rest ≡ true

abbrev pub IsShort : ℕ → Type 0
IsShort n = n < 2 ^ 32

pub short_sound : Sound short_at (λ n. decimal n) IsShort
short_sound list n rest e = let k = number_sound (2 ^ 32 - 1) (omega arith) list n rest e in (omega (arith, k.0), k.1)

pub short_complete : Complete short_at (λ n. decimal n) IsShort Apart
short_complete n rest s a = number_complete (2 ^ 32 - 1) (omega arith) n rest (omega (arith, s)) a

-- neither a digit nor `+` stands in front
abbrev pub is_ended : List ℕ → Bool
is_ended [] = true
is_ended (b ∷ bs) = not (is_digit b) && not (b == 43)

pub plus_text : (n : ℕ) → 1 ≤ n → ended_text n ≡ 43 ∷ decimal n
plus_text n m = rw (ne_eqb n 0 (λ e. omega (arith, m, e))) refl

plus_by : (b : ℕ) (bs : List ℕ) (n : ℕ) (rest : List ℕ) (x : Bool) → (b == 43) ≡ x → cond x (not_zero (short_at bs)) (Some (0, b ∷ bs)) ≡ Some (n, rest) → IsShort n × (ended_text n ++ rest ≡ b ∷ bs)
plus_by b bs n rest true e h =
    let k = not_zero_of (short_at bs) n rest h in
    let s = short_sound bs n rest k.0 in
    (s.0, rw (plus_text n k.1, eqb-true b 43 e) (ap (λ (q : List ℕ). 43 ∷ q) s.1))
plus_by b bs n rest false e h =
    let same = same_read 0 n (b ∷ bs) rest h in
    (rw (← same.0) (omega arith), rw (← same.0, ← same.1) refl)

pub plus_sound : Sound plus_at ended_text IsShort
unfolding plus_at
plus_sound [] n rest e = let same = same_read 0 n [] rest e in (rw (← same.0) (omega arith), rw (← same.0, ← same.1) refl)
plus_sound (b ∷ bs) n rest e = plus_by b bs n rest (b == 43) refl e

none_plus : (rest : List ℕ) → is_ended rest ≡ true → plus_at rest ≡ Some (0, rest)
unfolding plus_at
none_plus [] e = refl
none_plus (b ∷ bs) e = by (b == 43) (and_parts (not (is_digit b)) (not (b == 43)) e).1
  where
    by : (x : Bool) → not x ≡ true → cond x (not_zero (short_at bs)) (Some (0, b ∷ bs)) ≡ Some (0, b ∷ bs)
    by true k = absurd cc
    by false k = refl

pub ended_apart : (rest : List ℕ) → is_ended rest ≡ true → Apart rest
ended_apart [] e = refl
ended_apart (b ∷ bs) e = (and_parts (not (is_digit b)) (not (b == 43)) e).0

some_plus : (n : ℕ) (rest : List ℕ) → IsShort n → 1 ≤ n → Apart rest → plus_at (43 ∷ (decimal n ++ rest)) ≡ Some (n, rest)
unfolding plus_at
some_plus n rest s m a = ap not_zero (short_complete n rest s a) ∙ not_zero_is n rest m

pub plus_some : (n : ℕ) (rest : List ℕ) → IsShort n → 1 ≤ n → Apart rest → plus_at (ended_text n ++ rest) ≡ Some (n, rest)
plus_some n rest s m a = ap (λ (q : List ℕ). plus_at (q ++ rest)) (plus_text n m) ∙ some_plus n rest s m a

pub plus_complete : Complete plus_at ended_text IsShort (λ rest. is_ended rest ≡ true)
plus_complete zero rest s f = none_plus rest f
plus_complete (suc n) rest s f = plus_some (suc n) rest s (omega arith) (ended_apart rest f)

-- ---- names

abbrev one : ℕ → List ℕ
one b = b ∷ []

abbrev IsPart : ℕ → Type 0
IsPart b = is_name_part b ≡ true

part_sound : Sound part_at one IsPart
unfolding part_at
part_sound [] b rest e = absurd cc
part_sound (a ∷ list) b rest e = by (is_name_part a) refl e
  where
    by : (x : Bool) → is_name_part a ≡ x → cond {A = Option (ℕ × List ℕ)} x (Some (a, list)) None ≡ Some (b, rest) → IsPart b × (b ∷ rest ≡ a ∷ list)
    by true k h = let same = same_read a b list rest h in (rw (← same.0) k, rw (← same.0, ← same.1) refl)
    by false k h = absurd cc

part_complete : Complete part_at one IsPart (λ rest. Unit {0})
unfolding part_at
part_complete b rest s f = rw s refl

pub part_shortens : Shortens part_at
part_shortens = shortens part_at one IsPart part_sound (λ b. omega arith)

-- no name goes on there
abbrev pub is_left : List ℕ → Bool
is_left [] = true
is_left (b ∷ bs) = not (is_name_part b)

left_none : (rest : List ℕ) → is_left rest ≡ true → part_at rest ≡ None
unfolding part_at
left_none [] e = refl
left_none (b ∷ bs) e = by (is_name_part b) e
  where
    by : (x : Bool) → not x ≡ true → cond {A = Option (ℕ × List ℕ)} x (Some (b, bs)) None ≡ None
    by true k = absurd cc
    by false k = refl

flat_one : (name : List ℕ) → flat_map one name ≡ name
flat_one [] = refl
flat_one (b ∷ bs) = ap (λ (q : List ℕ). b ∷ q) (flat_one bs)

start_part : (b : ℕ) → is_name_start b ≡ true → is_name_part b ≡ true
unfolding is_name_part
start_part b e = rw e refl

all_parts : (bs : List ℕ) → list_all is_name_part bs ≡ true → Spelt IsPart bs
all_parts [] e = tt
all_parts (b ∷ bs) e = let k = and_parts (is_name_part b) (list_all is_name_part bs) e in (k.0, all_parts bs k.1)

word_parts : (name : List ℕ) → is_word name ≡ true → Spelt IsPart name
word_parts [] e = absurd cc
word_parts (b ∷ bs) e = let k = and_parts (is_name_start b) (list_all is_name_part bs) e in (start_part b k.0, all_parts bs k.1)

pub name_sound : Sound name_at (λ n. n) (λ n. is_name n ≡ true)
unfolding name_at
name_sound list name rest e = by (is_name (many part_at list).0) refl e
  where
    by : (x : Bool) → is_name (many part_at list).0 ≡ x → cond x (Some (many part_at list)) None ≡ Some (name, rest) → (is_name name ≡ true) × (name ++ rest ≡ list)
    by true k h =
        let same = same_read (many part_at list).0 name (many part_at list).1 rest h in
        (ap is_name (sym same.0) ∙ k, rw (← same.0, ← same.1) (ap (λ (q : List ℕ). q ++ (many part_at list).1) (sym (flat_one (many part_at list).0)) ∙ (many_sound part_at one IsPart part_sound list).1))
    by false k h = absurd cc

pub name_complete : Complete name_at (λ n. n) (λ n. is_name n ≡ true) (λ rest. is_left rest ≡ true)
unfolding name_at
name_complete name rest s f =
    let k = many_complete part_at one IsPart (λ r. Unit {0}) part_shortens part_complete (λ x r q. tt) name rest (word_parts name (and_parts (is_word name) (not (is_reserved name)) s).0) tt (left_none rest f) in
    ap named (ap (λ (q : List ℕ). many part_at (q ++ rest)) (sym (flat_one name)) ∙ k) ∙ rw s refl
