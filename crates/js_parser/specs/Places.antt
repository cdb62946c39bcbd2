-- Places of a text as byte offsets.
use Rattle.std.specs.Prelude.{ℕ, List, take}
use Rattle.js_units.specs.Utf8.{utf8_size}

-- the byte offset of a place that counts code units
abbrev pub byte_at : List ℕ → ℕ → ℕ
byte_at text n = utf8_size (take n text)
