-- Values of inputs that are read are those that are written.
use Rattle.std.proofs.Common.{◌≡◌, ℕ, ◌-◌, ◌^◌, ◌<◌, Bool, true, false, cond, List, [], ◌∷◌, ◌++◌, length, Option, Some, None, refl, sym, ap, subst, ◌∙◌, arith, append_assoc}
use Rattle.std.specs.Prelude.{◌==◌, ℤ, codes}
use Rattle.std.specs.Fmt.{signed_decimal}
use Rattle.std.proofs.lemmas.Bool.{eqb-true}
use Rattle.js_units.specs.Characters.{is_digit, is_letter, is_name_start, is_name_part}
use Rattle.js_units.specs.Quoted.{quoted}
use Rattle.js_units.specs.Unquoted.{quoted_at}
use Rattle.js_units.proofs.Reading.{Sound, Complete, Begins, Shortens, shortens, same_read}
use Rattle.js_units.proofs.ReadBack.{quoted_sound, quoted_complete}
use Rattle.path_core.specs.declared.path.InputValue.{InputValue}
use Rattle.path_core.specs.declared.path.InputValue.TheVariants as values
use Rattle.proof_text.specs.Lines.{after}
use Rattle.proof_text.specs.Numbers.{number_at, signed_at}
use Rattle.proof_text.proofs.Parts.{after_sound, found}
use Rattle.proof_text.proofs.Numerals.{apart, signed_sound, signed_complete}
use Rattle.report_text.specs.Lines.{value_text, item_text}
use Rattle.report_text.specs.Parts.{name_at}
use Rattle.report_text.specs.Inputs.{IsValue, IsItem, int_value, text_value, value_at, item_at}
use Rattle.report_text.proofs.ReadParts.{Apart, is_left, name_sound, name_complete}

-- ---- values

int_of : (list : List ℕ) (o : Option (ℤ × List ℕ)) (v : InputValue) (rest : List ℕ) → signed_at (2 ^ 63) (2 ^ 63 - 1) list ≡ o → int_value o ≡ Some (v, rest) → IsValue v × (value_text v ++ rest ≡ list)
int_of list None v rest e h = absurd cc
int_of list (Some r) v rest e h =
    let k = signed_sound (2 ^ 63) (2 ^ 63 - 1) (omega arith) (omega arith) list r.0 r.1 e in
    let same = same_read (values.Int r.0) v r.1 rest h in
    (subst IsValue same.0 k.0, rw (← same.0, ← same.1) k.1)

text_of : (list : List ℕ) (o : Option (List ℕ × List ℕ)) (v : InputValue) (rest : List ℕ) → quoted_at list ≡ o → text_value o ≡ Some (v, rest) → IsValue v × (value_text v ++ rest ≡ list)
text_of list None v rest e h = absurd cc
text_of list (Some r) v rest e h =
    let k = quoted_sound list r.0 r.1 e in
    let same = same_read (values.Text r.0) v r.1 rest h in
    (subst IsValue same.0 k.0, rw (← same.0, ← same.1) k.1)

value_by : (b : ℕ) (bs : List ℕ) (v : InputValue) (rest : List ℕ) (x : Bool) → (b == 34) ≡ x → cond x (text_value (quoted_at (b ∷ bs))) (int_value (signed_at (2 ^ 63) (2 ^ 63 - 1) (b ∷ bs))) ≡ Some (v, rest) → IsValue v × (value_text v ++ rest ≡ b ∷ bs)
value_by b bs v rest true e h = text_of (b ∷ bs) (quoted_at (b ∷ bs)) v rest refl h
value_by b bs v rest false e h = int_of (b ∷ bs) (signed_at (2 ^ 63) (2 ^ 63 - 1) (b ∷ bs)) v rest refl h

pub value_sound : Sound value_at value_text IsValue
unfolding value_at
value_sound [] v rest e = absurd cc
value_sound (b ∷ bs) v rest e = value_by b bs v rest (b == 34) refl e

-- a number begins with no quote
no_quote : (z : ℤ) (rest : List ℕ) (list : List ℕ) → list ≡ signed_decimal z ++ rest → signed_at (2 ^ 63) (2 ^ 63 - 1) list ≡ Some (z, rest) → value_at list ≡ Some (values.Int z, rest)
unfolding value_at signed_at number_at is_digit
no_quote z rest [] e h = absurd cc
no_quote z rest (b ∷ bs) e h = by (b == 34) refl
  where
    by : (x : Bool) → (b == 34) ≡ x → cond x (text_value (quoted_at (b ∷ bs))) (int_value (signed_at (2 ^ 63) (2 ^ 63 - 1) (b ∷ bs))) ≡ Some (values.Int z, rest)
    by true k = absurd (let same = eqb-true b 34 k in let m : signed_at (2 ^ 63) (2 ^ 63 - 1) (34 ∷ bs) ≡ Some (z, rest) = ap (λ (q : ℕ). signed_at (2 ^ 63) (2 ^ 63 - 1) (q ∷ bs)) (sym same) ∙ h in cc)
    by false k = ap int_value h

text_quoted : (text rest : List ℕ) (list : List ℕ) → list ≡ quoted text ++ rest → quoted_at list ≡ Some (text, rest) → value_at list ≡ Some (values.Text text, rest)
unfolding value_at quoted
text_quoted text rest [] e h = absurd cc
text_quoted text rest (b ∷ bs) e h = let k : b ≡ 34 = cc in rw (ap (λ (q : ℕ). q == 34) k) (ap text_value h)

pub value_complete : Complete value_at value_text IsValue Apart
value_complete (values.Int z) rest s a = no_quote z rest (signed_decimal z ++ rest) refl (signed_complete (2 ^ 63) (2 ^ 63 - 1) (omega arith) (omega arith) z rest s a)
value_complete (values.Text text) rest s a = text_quoted text rest (quoted text ++ rest) refl (quoted_complete text rest s)

-- ---- items

item_parts : (i : List ℕ × InputValue) (rest : List ℕ) → item_text i ++ rest ≡ codes " " ++ (i.0 ++ (codes "=" ++ (value_text i.1 ++ rest)))
unfolding item_text
item_parts i rest =
    append_assoc (codes " " ++ i.0 ++ codes "=") (value_text i.1) rest
    ∙ append_assoc (codes " " ++ i.0) (codes "=") (value_text i.1 ++ rest)

pub item_sound : Sound item_at item_text IsItem
unfolding item_at
item_sound list i rest e =
    let a = found (after (codes " ") list) _ (i, rest) e in
    let n = found (name_at a.first) _ (i, rest) a.then_is in
    let b = found (after (codes "=") n.first.1) _ (i, rest) n.then_is in
    let v = found (value_at b.first) _ (i, rest) b.then_is in
    let one : List ℕ × InputValue = (n.first.0, v.first.0) in
    let same = same_read one i v.first.1 rest v.then_is in
    let ns = name_sound a.first n.first.0 n.first.1 n.first_is in
    let vs = value_sound b.first v.first.0 v.first.1 v.first_is in (
      subst IsItem same.0 (ns.0, vs.0),
      ap (λ (q : List ℕ × InputValue). item_text q ++ rest) (sym same.0)
          ∙ item_parts one rest
          ∙ ap (λ (q : List ℕ). codes " " ++ (n.first.0 ++ (codes "=" ++ q))) (ap (λ (q : List ℕ). value_text v.first.0 ++ q) (sym same.1) ∙ vs.1)
          ∙ ap (λ (q : List ℕ). codes " " ++ (n.first.0 ++ q)) (after_sound (codes "=") n.first.1 b.first b.first_is)
          ∙ ap (λ (q : List ℕ). codes " " ++ q) ns.1
          ∙ after_sound (codes " ") list a.first a.first_is,
    )

equals_left : (rest : List ℕ) → is_left (61 ∷ rest) ≡ true
unfolding is_name_part is_name_start is_letter is_digit
equals_left rest = refl

pub item_complete : Complete item_at item_text IsItem Apart
unfolding item_at
item_complete i rest s f =
    ap item_at (item_parts i rest)
    ∙ rw (name_complete i.0 (codes "=" ++ (value_text i.1 ++ rest)) s.0 (equals_left (value_text i.1 ++ rest)))
    (rw (value_complete i.1 rest s.1 f) refl)

space_apart : (list : List ℕ) → apart (32 ∷ list) ≡ true
unfolding is_digit
space_apart list = refl

pub item_begins : Begins item_text IsItem Apart
unfolding item_text
item_begins i rest s = space_apart (i.0 ++ codes "=" ++ value_text i.1 ++ rest)

item_some : (i : List ℕ × InputValue) → 0 < length (item_text i)
unfolding item_text
item_some i = omega arith

pub item_shortens : Shortens item_at
item_shortens = shortens item_at item_text IsItem item_sound item_some
