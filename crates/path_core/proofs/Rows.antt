-- Worked examples: bounds files, and the inputs within bounds.
use Rattle.std.proofs.Common.{◌≡◌, ℕ, pos, List, [], ◌∷◌, codes, refl}
use Rattle.std.specs.Prelude.{Ok, Err}
use Rattle.serde_json.proofs.OnLiterals.{serde_json_on_literals}
use Rattle.path_core.specs.declared.bounds.Bounds.{Bounds}
use Rattle.path_core.specs.declared.bounds.BoundsRefusal.TheVariants as refusal
use Rattle.path_core.specs.declared.bounds.Declared.{Declared}
use Rattle.path_core.specs.declared.bounds.Kind.TheVariants as kinds
use Rattle.path_core.specs.declared.path.InputValue.TheVariants as values
use Rattle.std.specs.Prelude.{true, nat_lt}
use Rattle.std.specs.Str.{is_utf8}
use Rattle.std.specs.List.{list_all}
use Rattle.std.proofs.Common.{◌<◌, ltb-true}
use Rattle.std.proofs.lemmas.Str.{IsUtf8-from_ascii, is_utf8-from_IsUtf8}
use Rattle.std.proofs.lemmas.Str.Ascii.{IsAscii-from_all}
use Rattle.std.proofs.lemmas.List.Elements.{All-weaker}
use Rattle.std.proofs.lemmas.List.Sums.{AllPass-from_list_all}
use Rattle.path_core.specs.Inputs.{Values, within}
use Rattle.path_core.specs.Form.{form, object_of, version_of, list_of, declared_of, name_of, kind_of, budgets_of, budget_of, numbers_of, number_of, range_of}
use Rattle.js_units.specs.Characters.{is_letter, is_digit, is_name_start, is_name_part}
use Rattle.js_units.specs.Words.{reserved_words}
use Rattle.path_core.specs.Names.{is_among}

-- the bounds of these inputs, with the budgets that no file sets
abbrev pub with_inputs : List Declared → Bounds
with_inputs inputs = record { turns = 1000; paths = 1000; candidates = 64; steps = 1000000; width = 20000000; pieces = 1; inputs = inputs }

-- a whole number n from 0
abbrev pub n_to : ℕ → List Declared
n_to high = record { name = codes "n"; kind = kinds.Int (pos 0) (pos high) } ∷ []

-- ASCII is UTF-8
ascii_utf8 : (bs : List ℕ) → list_all (λ b. nat_lt b 128) bs ≡ true → is_utf8 bs ≡ true
ascii_utf8 bs e =
    is_utf8-from_IsUtf8 bs (IsUtf8-from_ascii bs (IsAscii-from_all bs (All-weaker (λ b. nat_lt b 128 ≡ true) (λ b. b < 128) (λ b t. ltb-true b 128 t) bs (AllPass-from_list_all (λ b. nat_lt b 128) bs e))))

no_inputs : form (codes "{\"version\":1,\"inputs\":[]}") ≡ Ok (with_inputs [])
unfolding form object_of version_of list_of is_among budgets_of budget_of serde_json_on_literals
no_inputs = rw (ascii_utf8 (codes "{\"version\":1,\"inputs\":[]}") refl) refl

abbrev n_file : List ℕ
n_file = codes "{\"version\":1,\"inputs\":[{\"name\":\"n\",\"kind\":\"int\",\"low\":0,\"high\":4}]}"

n_from_0_to_4 : form n_file ≡ Ok (with_inputs (n_to 4))
unfolding form object_of version_of list_of declared_of name_of kind_of numbers_of number_of range_of is_among reserved_words is_name_part is_name_start is_letter is_digit budgets_of budget_of serde_json_on_literals
n_from_0_to_4 = rw (ascii_utf8 n_file refl) refl

abbrev turned_file : List ℕ
turned_file = codes "{\"version\":1,\"inputs\":[{\"name\":\"n\",\"kind\":\"int\",\"low\":3,\"high\":2}]}"

low_above_high : form turned_file ≡ Err (refusal.Range (codes "n"))
unfolding form object_of version_of list_of declared_of name_of kind_of numbers_of number_of range_of is_among reserved_words is_name_part is_name_start is_letter is_digit budgets_of budget_of serde_json_on_literals
low_above_high = rw (ascii_utf8 turned_file refl) refl

no_input_list : form (codes "{\"version\":1}") ≡ Err (refusal.Field (codes "inputs"))
unfolding form object_of version_of list_of budgets_of budget_of serde_json_on_literals
no_input_list = rw (ascii_utf8 (codes "{\"version\":1}") refl) refl

-- the inputs of no name: one
within_none : within [] ≡ [] ∷ []
within_none = refl

within_n : within (n_to 4) ≡ (values.Int (pos 0) ∷ []) ∷ (values.Int (pos 1) ∷ []) ∷ (values.Int (pos 2) ∷ []) ∷ (values.Int (pos 3) ∷ []) ∷ (values.Int (pos 4) ∷ []) ∷ []
within_n = refl

-- a text of at most one unit over `xy`, and a number from 0 to 1
abbrev text_and_number : List Declared
text_and_number = record { name = codes "t"; kind = kinds.Text 0 1 (codes "xy") } ∷ record { name = codes "n"; kind = kinds.Int (pos 0) (pos 1) } ∷ []

abbrev pair : List ℕ → ℕ → Values
pair text n = values.Text text ∷ values.Int (pos n) ∷ []

within_two : within text_and_number ≡ pair [] 0 ∷ pair [] 1 ∷ pair (codes "x") 0 ∷ pair (codes "x") 1 ∷ pair (codes "y") 0 ∷ pair (codes "y") 1 ∷ []
within_two = refl
