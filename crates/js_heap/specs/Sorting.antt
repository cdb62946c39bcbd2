-- The number by which own keys are sorted.
use Rattle.std.specs.Prelude.{ℕ, List}
use Rattle.std.specs.Option.{unwrap_or}
use Rattle.js_values.specs.OwnKeys.{array_index}

-- the number of an array index, and 2^32 - 1 for any other key
abbrev pub rank : List ℕ → ℕ
rank key = unwrap_or (array_index key) 4294967295
