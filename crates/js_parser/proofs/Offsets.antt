-- Byte offsets of places.
use Rattle.std.proofs.Common.{◌≡◌, ℕ, ◌-◌, ◌+◌, ◌≤◌, List, [], ◌∷◌, ◌++◌, take, drop, sym, ap, ◌∙◌, arith}
use Rattle.std.proofs.Math.Seq.{take-add}
use Rattle.std.proofs.lemmas.List.{take-append-drop}
use Rattle.js_units.specs.Utf8.{utf8_size}
use Rattle.js_parser.specs.Places.{byte_at}

pub size_append : (xs ys : List ℕ) → utf8_size (xs ++ ys) ≡ utf8_size xs + utf8_size ys
size_append [] ys = omega arith
size_append (x ∷ xs) ys = omega (arith, size_append xs ys)

-- from one place to another
pub offset_on : (text : List ℕ) (from to : ℕ) → from ≤ to → byte_at text from + utf8_size (take (to - from) (drop from text)) ≡ byte_at text to
offset_on text from to h =
    let e : from + (to - from) ≡ to = omega (arith, h) in
    sym (size_append (take from text) (take (to - from) (drop from text))) ∙ ap utf8_size (sym (take-add from (to - from) text)) ∙ ap (λ (n : ℕ). utf8_size (take n text)) e

-- no place is behind the end
pub offset_within : (text : List ℕ) (to : ℕ) → byte_at text to ≤ utf8_size text
offset_within text to = omega (arith, ap utf8_size (take-append-drop to text), size_append (take to text) (drop to text))
