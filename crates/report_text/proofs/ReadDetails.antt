-- Lines under a query that are read are those that are written.
use Rattle.std.proofs.Common.{◌≡◌, ℕ, ◌-◌, ◌^◌, ◌<◌, List, [], ◌∷◌, ◌++◌, None, refl, sym, ap, subst, ◌∙◌, arith, append_assoc}
use Rattle.std.specs.Prelude.{codes, decimal}
use Rattle.js_units.specs.Characters.{is_digit}
use Rattle.js_units.specs.Reading.{many}
use Rattle.js_units.proofs.Reading.{Sound, Complete, Shortens, shortens, same_read, many_sound, many_complete}
use Rattle.path_core.specs.declared.path.InputValue.{InputValue}
use Rattle.proof_text.specs.Lines.{after}
use Rattle.proof_text.specs.Numbers.{number_at}
use Rattle.proof_text.proofs.Parts.{after_sound, after_complete, found}
use Rattle.proof_text.proofs.Numerals.{number_sound, number_complete, decimal_inner}
use Rattle.proof_text.proofs.Refusing.{IsLineFormat}
use Rattle.proof_text.proofs.Formats.{line_by}
use Rattle.report_text.specs.Lines.{item_text, input_text}
use Rattle.report_text.specs.Inputs.{IsItem, item_at}
use Rattle.report_text.specs.Reports.{IsInput}
use Rattle.report_text.specs.Details.{input_line, input_line_at, number_line, number_line_at}
use Rattle.report_text.proofs.ReadParts.{Apart}
use Rattle.report_text.proofs.ReadInputs.{item_sound, item_complete, item_begins, item_shortens}
use Rattle.report_text.proofs.ReadQueries.{spelt_each, each_spelt}
use Rattle.report_text.proofs.Inner.{Inner, both, input_inner}

lf_apart : (rest : List ℕ) → Apart (10 ∷ rest)
unfolding is_digit
lf_apart rest = refl

no_item : (rest : List ℕ) → item_at (10 ∷ rest) ≡ None
unfolding item_at
no_item rest = refl

-- ---- a word and an input

input_parts : (word : List ℕ) (input : List (List ℕ × InputValue)) (rest : List ℕ) → input_line word input ++ rest ≡ word ++ (input_text input ++ (codes "\n" ++ rest))
input_parts word input rest = append_assoc (word ++ input_text input) (codes "\n") rest ∙ append_assoc word (input_text input) (codes "\n" ++ rest)

input_line_sound : (word : List ℕ) → Sound (input_line_at word) (input_line word) IsInput
unfolding input_line_at
input_line_sound word list input rest h =
    let a = found (after word list) _ (input, rest) h in
    let is = many_sound item_at item_text IsItem item_sound a.first in
    let n = found (after (codes "\n") (many item_at a.first).1) _ (input, rest) a.then_is in
    let same = same_read (many item_at a.first).0 input n.first rest n.then_is in (
      subst IsInput same.0 (each_spelt IsItem (many item_at a.first).0 is.0),
      ap (λ (q : List (List ℕ × InputValue)). input_line word q ++ rest) (sym same.0)
          ∙ input_parts word (many item_at a.first).0 rest
          ∙ ap (λ (q : List ℕ). word ++ (input_text (many item_at a.first).0 ++ q)) (ap (λ (q : List ℕ). codes "\n" ++ q) (sym same.1) ∙ after_sound (codes "\n") (many item_at a.first).1 n.first n.first_is)
          ∙ ap (λ (q : List ℕ). word ++ q) is.1
          ∙ after_sound word list a.first a.first_is,
    )

input_line_complete : (word : List ℕ) → Complete (input_line_at word) (input_line word) IsInput (λ rest. Unit {0})
unfolding input_line_at
input_line_complete word input rest s f =
    let is = many_complete item_at item_text IsItem Apart item_shortens item_complete item_begins input (10 ∷ rest) (spelt_each IsItem input s) (lf_apart rest) (no_item rest) in
    ap (input_line_at word) (input_parts word input rest)
    ∙ rw (after_complete word (input_text input ++ (codes "\n" ++ rest)))
    (rw is refl)

pub input_format : (word : List ℕ) → Inner word → IsLineFormat (input_line_at word) (input_line word) IsInput
input_format word w = record {
  sound = input_line_sound word;
  complete = input_line_complete word;
  line = λ input s. line_by (word ++ input_text input) [] (both word (input_text input) w (input_inner input s)) refl;
}

pub tried_format : IsLineFormat (input_line_at (codes "tried")) (input_line (codes "tried")) IsInput
tried_format = input_format (codes "tried") refl

pub untried_format : IsLineFormat (input_line_at (codes "untried")) (input_line (codes "untried")) IsInput
untried_format = input_format (codes "untried") refl

pub beyond_format : IsLineFormat (input_line_at (codes "beyond")) (input_line (codes "beyond")) IsInput
beyond_format = input_format (codes "beyond") refl

pub tried_shortens : Shortens (input_line_at (codes "tried"))
tried_shortens = shortens (input_line_at (codes "tried")) (input_line (codes "tried")) IsInput tried_format.sound (λ i. omega arith)

-- ---- a word and a number

abbrev pub IsLong : ℕ → Type 0
IsLong n = n < 2 ^ 64

number_parts : (word : List ℕ) (n : ℕ) (rest : List ℕ) → number_line word n ++ rest ≡ word ++ (decimal n ++ (codes "\n" ++ rest))
number_parts word n rest = append_assoc (word ++ decimal n) (codes "\n") rest ∙ append_assoc word (decimal n) (codes "\n" ++ rest)

number_line_sound : (word : List ℕ) → Sound (number_line_at word) (number_line word) IsLong
unfolding number_line_at
number_line_sound word list m rest h =
    let a = found (after word list) _ (m, rest) h in
    let d = found (number_at (2 ^ 64 - 1) a.first) _ (m, rest) a.then_is in
    let n = found (after (codes "\n") d.first.1) _ (m, rest) d.then_is in
    let same = same_read d.first.0 m n.first rest n.then_is in
    let k = number_sound (2 ^ 64 - 1) (omega arith) a.first d.first.0 d.first.1 d.first_is in (
      subst IsLong same.0 (omega (arith, k.0)),
      ap (λ (q : ℕ). number_line word q ++ rest) (sym same.0)
          ∙ number_parts word d.first.0 rest
          ∙ ap (λ (q : List ℕ). word ++ (decimal d.first.0 ++ q)) (ap (λ (q : List ℕ). codes "\n" ++ q) (sym same.1) ∙ after_sound (codes "\n") d.first.1 n.first n.first_is)
          ∙ ap (λ (q : List ℕ). word ++ q) k.1
          ∙ after_sound word list a.first a.first_is,
    )

number_line_complete : (word : List ℕ) → Complete (number_line_at word) (number_line word) IsLong (λ rest. Unit {0})
unfolding number_line_at
number_line_complete word n rest s f =
    ap (number_line_at word) (number_parts word n rest)
    ∙ rw (after_complete word (decimal n ++ (codes "\n" ++ rest)))
    (rw (number_complete (2 ^ 64 - 1) (omega arith) n (codes "\n" ++ rest) (omega (arith, s)) (lf_apart rest)) refl)

pub number_format : (word : List ℕ) → Inner word → IsLineFormat (number_line_at word) (number_line word) IsLong
number_format word w = record {
  sound = number_line_sound word;
  complete = number_line_complete word;
  line = λ n s. line_by (word ++ decimal n) [] (both word (decimal n) w (decimal_inner n s)) refl;
}

pub cost_format : IsLineFormat (number_line_at (codes "cost ")) (number_line (codes "cost ")) IsLong
cost_format = number_format (codes "cost ") refl

pub count_format : IsLineFormat (number_line_at (codes "terms ")) (number_line (codes "terms ")) IsLong
count_format = number_format (codes "terms ") refl
