-- The order of an object's own keys (ECMA-262, sections 6.1.7 and 10.1.11.1).
use Rattle.std.specs.Prelude.{◌≡◌, ℕ, ◌+◌, ◌-◌, ◌*◌, ◌≤◌, ◌==◌, nat_le, nat_lt, Bool, true, false, not, ◌&&◌, List, [], ◌∷◌, ◌++◌, map, filter, Option, Some, None, is_some, if◌then◌else◌, Contains, ◌↔◌, decimal}
use Rattle.std.specs.List.{filter_map}
use Rattle.std.specs.List.Sorted.{IsStrictlyIncreasing}
use Rattle.std.specs.Str.{all_ascii_digits}

-- the number of the digits, behind those already read
abbrev pub read_on : ℕ → List ℕ → ℕ
read_on n [] = n
read_on n (d ∷ ds) = read_on (10 * n + (d - 48)) ds

-- the number of the digits, where they are digits and it is at most 2^32 - 2
abbrev pub number_from : ℕ → List ℕ → Option ℕ
number_from n ds = if all_ascii_digits ds && nat_le (read_on n ds) 4294967294 then Some (read_on n ds) else None

-- a single unit, or several of which the first is no zero
abbrev pub begins_well : List ℕ → Bool
begins_well [] = false
begins_well (c ∷ []) = true
begins_well (c ∷ d ∷ ds) = not (c == 48)

-- the number of an array index
abbrev pub array_index : List ℕ → Option ℕ
array_index key = if begins_well key then number_from 0 key else None

-- an array index (6.1.7): the canonical decimal text of a whole number from 0 to 2^32 - 2
pub record IsIndexText (n : ℕ) (key : List ℕ) : Type 0 where
  pub most : n ≤ 4294967294
  pub text : key ≡ decimal n

-- whether the key is no array index
abbrev pub is_name : List ℕ → Bool
is_name key = not (is_some (array_index key))

-- the number at its place among ascending ones
abbrev pub placed : ℕ → List ℕ → List ℕ
placed n [] = n ∷ []
placed n (m ∷ ms) = if nat_lt n m then n ∷ m ∷ ms else (if nat_lt m n then m ∷ placed n ms else m ∷ ms)

-- the numbers, each once, in ascending order
abbrev pub ascending : List ℕ → List ℕ
ascending [] = []
ascending (n ∷ ns) = placed n (ascending ns)

-- OrdinaryOwnPropertyKeys (10.1.11.1): the own keys of an object whose keys were created in this order
abbrev pub own_keys : List (List ℕ) → List (List ℕ)
own_keys created = map decimal (ascending (filter_map array_index created)) ++ filter is_name created

-- what makes them the standard's: each array index, in ascending numeric order, and then each other key, in the order of creation
pub record IsOwnKeys (created keys : List (List ℕ)) : Type 0 where
  pub indexes : List ℕ
  pub ascending : IsStrictlyIncreasing indexes
  pub each : (n : ℕ) → Contains indexes n ↔ ((n ≤ 4294967294) × Contains created (decimal n))
  pub keys_are : keys ≡ map decimal indexes ++ filter is_name created
