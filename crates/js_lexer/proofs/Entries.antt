-- Entries of tables with which units begin.
use Rattle.std.proofs.Common.{◌≡◌, ℕ, ◌≤◌, ◌<◌, Bool, true, false, List, [], ◌∷◌, ◌++◌, length, drop, refl, sym, ap, subst, arith, inl, inr, eq-eqb}
use Rattle.std.specs.Prelude.{max, codes, bytes_eq, ◌&&◌, ◌||◌, ◌==◌, if◌then◌else◌}
use Rattle.std.proofs.lemmas.Bool.{and_parts, eqb-true, cases_lt}
use Rattle.std.proofs.lemmas.Slice.Eq.{bytes_eq-Decides}
use Rattle.js_lexer.specs.Tables.{is_among, marks, refused_marks}
use Rattle.js_lexer.specs.Words.{begins_with, longest_of, comment_close, optional_chain, longest_refused}

-- an entry with which the units begin fits in them
pub begins_le : (entry units : List ℕ) → begins_with entry units ≡ true → length entry ≤ length units
begins_le [] units e = omega arith
begins_le (b ∷ bs) [] e = absurd cc
begins_le (b ∷ bs) (u ∷ us) e = let parts = and_parts (b == u) (begins_with bs us) e in omega (arith, begins_le bs us parts.1)

length_by : (entry units : List ℕ) (x : Bool) → begins_with entry units ≡ x → (if x then length entry else 0) ≤ length units
length_by entry units true e = begins_le entry units e
length_by entry units false e = omega arith

longest_le : (table : List (List ℕ)) (units : List ℕ) → longest_of table units ≤ length units
longest_le [] units = omega arith
longest_le (entry ∷ table) units = omega (arith, length_by entry units (begins_with entry units) refl, longest_le table units)

pub mark_le : (units : List ℕ) → longest_of marks units ≤ length units
mark_le units = longest_le marks units

close_le : (starts_line : Bool) (units : List ℕ) → comment_close starts_line units ≤ length units
unfolding comment_close
close_le true units = length_by (codes "-->") units (begins_with (codes "-->") units) refl
close_le false units = omega arith

chain_by : (x y : Bool) (n : ℕ) → (x ≡ true → 2 ≤ n) → (if x && y then 2 else 0) ≤ n
chain_by true true n h = h refl
chain_by true false n h = omega arith
chain_by false y n h = omega arith

chain_le : (units : List ℕ) → optional_chain units ≤ length units
unfolding optional_chain
chain_le units = chain_by (begins_with (codes "?.") units) _ (length units) (begins_le (codes "?.") units)

pub refused_le : (starts_line : Bool) (units : List ℕ) → longest_refused starts_line units ≤ length units
unfolding longest_refused
refused_le starts_line units = omega (arith, longest_le refused_marks units, close_le starts_line units, chain_le units)

-- ---- the longest entry

pub begins_append : (entry rest : List ℕ) → begins_with entry (entry ++ rest) ≡ true
begins_append [] rest = refl
begins_append (b ∷ bs) rest = rw (eq-eqb b b refl) (begins_append bs rest)

-- the units that an entry stands before
pub begins_is : (entry units : List ℕ) → begins_with entry units ≡ true → units ≡ entry ++ drop (length entry) units
begins_is [] units e = refl
begins_is (b ∷ bs) [] e = absurd cc
begins_is (b ∷ bs) (u ∷ us) e =
    let parts = and_parts (b == u) (begins_with bs us) e in
    let head = eqb-true b u parts.0 in
    let tail = begins_is bs us parts.1 in
    (λ i. sym head i ∷ tail i)

-- an entry of that length stands in front
pub record IsEntry (table : List (List ℕ)) (units : List ℕ) (n : ℕ) : Type 0 where
  pub mark : List ℕ
  pub units_are : units ≡ mark ++ drop n units
  pub length_is : length mark ≡ n
  pub among : is_among table mark ≡ true

or_right : (x : Bool) → (x || true) ≡ true
or_right true = refl
or_right false = refl

entry_here : (entry : List ℕ) (table : List (List ℕ)) (units : List ℕ) → begins_with entry units ≡ true → IsEntry (entry ∷ table) units (length entry)
entry_here entry table units e = record { mark = entry; units_are = begins_is entry units e; length_is = refl; among = rw ((bytes_eq-Decides entry entry).1 refl) refl }

entry_later : (entry : List ℕ) (table : List (List ℕ)) (units : List ℕ) (n : ℕ) → IsEntry table units n → IsEntry (entry ∷ table) units n
entry_later entry table units n h = record { mark = h.mark; units_are = h.units_are; length_is = h.length_is; among = rw h.among (or_right (bytes_eq entry h.mark)) }

entry_by : (entry : List ℕ) (table : List (List ℕ)) (units : List ℕ) (x : Bool) → begins_with entry units ≡ x → 0 < max (if x then length entry else 0) (longest_of table units) → (0 < longest_of table units → IsEntry table units (longest_of table units)) → IsEntry (entry ∷ table) units (max (if x then length entry else 0) (longest_of table units))
entry_by entry table units true e some more = elim (cases_lt (length entry) (longest_of table units)) [
  | inl l ↦ let same : longest_of table units ≡ max (length entry) (longest_of table units) = omega arith in
      subst (λ (q : ℕ). IsEntry (entry ∷ table) units q) same (entry_later entry table units (longest_of table units) (more (omega arith)))
  | inr l ↦ let same : length entry ≡ max (length entry) (longest_of table units) = omega arith in
      subst (λ (q : ℕ). IsEntry (entry ∷ table) units q) same (entry_here entry table units e)
]
entry_by entry table units false e some more =
    let same : longest_of table units ≡ max 0 (longest_of table units) = omega arith in
    subst (λ (q : ℕ). IsEntry (entry ∷ table) units q) same (entry_later entry table units (longest_of table units) (more (omega arith)))

pub longest_found : (table : List (List ℕ)) (units : List ℕ) → 0 < longest_of table units → IsEntry table units (longest_of table units)
longest_found [] units some = absurd (omega arith)
longest_found (entry ∷ table) units some = entry_by entry table units (begins_with entry units) refl some (longest_found table units)

-- no entry in front is longer
pub longest_bound : (table : List (List ℕ)) (mark rest : List ℕ) → is_among table mark ≡ true → length mark ≤ longest_of table (mark ++ rest)
longest_bound [] mark rest e = absurd cc
longest_bound (entry ∷ table) mark rest e = by (bytes_eq entry mark) refl e (longest_bound table mark rest)
  where
    by : (x : Bool) → bytes_eq entry mark ≡ x → (x || is_among table mark) ≡ true → (is_among table mark ≡ true → length mark ≤ longest_of table (mark ++ rest)) → length mark ≤ max (if begins_with entry (mark ++ rest) then length entry else 0) (longest_of table (mark ++ rest))
    by true h f more =
        let same = (bytes_eq-Decides entry mark).0 h in
        let here : begins_with entry (mark ++ rest) ≡ true = subst (λ (q : List ℕ). begins_with entry (q ++ rest) ≡ true) same (begins_append entry rest) in
        rw here (omega (arith, ap length same))
    by false h f more = omega (arith, more f)
