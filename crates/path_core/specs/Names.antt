-- The names of inputs: which texts are names in the language.
use Rattle.std.specs.Prelude.{◌&&◌, not, bytes_eq, ℕ, List, [], ◌∷◌, Bool, false}
use Rattle.std.specs.List.{list_all, list_any}
use Rattle.js_units.specs.Characters.{is_name_start, is_name_part}
use Rattle.js_units.specs.Words.{reserved_words}

-- A text is one of a list of texts.
unfoldable pub is_among : List ℕ → List (List ℕ) → Bool
is_among text texts = list_any (bytes_eq text) texts

-- The language keeps this name for itself.
abbrev pub is_reserved : List ℕ → Bool
is_reserved name = is_among name reserved_words

-- It begins with a letter, `_` or `$`, and only such and digits follow.
abbrev pub is_word : List ℕ → Bool
is_word [] = false
is_word (b ∷ bs) = is_name_start b && list_all is_name_part bs

-- A Name is a word that isn't reserved.
abbrev pub is_name : List ℕ → Bool
is_name name = is_word name && not (is_reserved name)
