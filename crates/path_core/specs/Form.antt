-- Which bounds a file stands for, or the first reason why it stands for none.
use Rattle.std.specs.Prelude.{◌||◌, nat_eq, negsuc, int_le, nat_le, bytes_eq, ◌≡◌, ◌&&◌, ℕ, suc, ℤ, pos, List, [], ◌∷◌, ◌++◌, length, codes, Bool, true, false, not, nat_lt, Option, Some, None, option_and_then, Result, Ok, Err, if◌then◌else◌, ⊤, is_some}
use Rattle.std.specs.List.{list_any}
use Rattle.std.specs.Str.{is_utf8}
use Rattle.serde_json.specs.Data.{Data, Items, no_items, item, Members, no_members, member}
use Rattle.serde_json.specs.Read.{read}
use Rattle.serde_json.specs.Find.{get, as_number, as_u64, as_integer, as_array, as_object, as_str}
use Rattle.js_units.specs.Answers as answers
use Rattle.js_units.specs.CodeUnits.{code_units}
use Rattle.path_core.specs.Names.{is_among, is_name}
use Rattle.path_core.specs.declared.bounds.BoundsRefusal.{BoundsRefusal}
use Rattle.path_core.specs.declared.bounds.Kind.{Kind}
use Rattle.path_core.specs.declared.bounds.Kind.TheVariants as kinds
use Rattle.path_core.specs.declared.bounds.Declared.{Declared}
use Rattle.path_core.specs.declared.bounds.Bounds.{Bounds}
use Rattle.path_core.specs.declared.bounds.BoundsRefusal.TheVariants as refusal

-- One step after another, up to the first refusal.
infixl 10 ◌>>=◌
abbrev pub ◌>>=◌ : {A B : Type 0} → Result A BoundsRefusal → (A → Result B BoundsRefusal) → Result B BoundsRefusal
(Ok x) >>= f = f x
(Err e) >>= f = Err e

-- The refusal that says nothing of the bounds.
abbrev pub is_memory : BoundsRefusal → Bool
is_memory refusal.NoMemory = true
is_memory refusal.Json = false
is_memory refusal.Version = false
is_memory (refusal.Field name) = false
is_memory (refusal.Range name) = false
is_memory (refusal.Alphabet name) = false

-- What a function returned, seen by view, is what reading gives, unless memory ran out.
abbrev pub Gives : {X Y : Type 0} → (X → Y) → Result X BoundsRefusal → Result Y BoundsRefusal → Type 0
Gives see result read = answers.Gives is_memory (λ told. told) see result read

-- Refused for the member of this name.
abbrev pub field : {A : Type 0} → List ℕ → Result A BoundsRefusal
field name = Err (refusal.Field name)

-- Refused for this member, unless memory ran out.
abbrev pub IsField : BoundsRefusal → List ℕ → Type 0
IsField refusal.NoMemory name = Unit {0}
IsField (refusal.Field n) name = n ≡ name
IsField refusal.Json name = ⊥
IsField refusal.Version name = ⊥
IsField (refusal.Range n) name = ⊥
IsField (refusal.Alphabet n) name = ⊥

-- 1. The bytes are one JSON object, in UTF-8.

-- Refused where no JSON stands, or no object.
abbrev pub as_file : Option Data → Result Data BoundsRefusal
as_file None = Err refusal.Json
as_file (Some d) = if is_some (as_object d) then Ok d else Err refusal.Json

-- The object of the bytes.
unfoldable pub object_of : List ℕ → Result Data BoundsRefusal
object_of bytes = if is_utf8 bytes then as_file (read bytes) else Err refusal.Json

-- 2. The version is the number 1.

-- It is there, and it is 1.
abbrev pub is_one : Option ℕ → Bool
is_one None = false
is_one (Some n) = nat_eq n 1

-- The member `version` of the file.
unfoldable pub version_of : Data → Result ⊤ BoundsRefusal
version_of file = if is_one (option_and_then as_u64 (option_and_then as_number (get (codes "version") file))) then Ok tt else Err refusal.Version

-- 3. Each budget that is there is a whole number of at least 0, and within its range.

-- Refused where it is no such number, or out of its range.
abbrev pub budgeted : List ℕ → ℕ → Option ℕ → Result ℕ BoundsRefusal
budgeted name most None = field name
budgeted name most (Some n) = if nat_le 1 n && nat_le n most then Ok n else Err (refusal.Range name)

-- What holds where the member isn't there, else what it says.
abbrev pub budget_or : List ℕ → ℕ → ℕ → Option Data → Result ℕ BoundsRefusal
budget_or name most usual None = Ok usual
budget_or name most usual (Some d) = budgeted name most (option_and_then as_u64 (as_number d))

-- The budget of this name, at most so much.
unfoldable pub budget_of : List ℕ → ℕ → ℕ → Data → Result ℕ BoundsRefusal
budget_of name most usual file = budget_or name most usual (get name file)

-- The five budgets, in order, before any input.
unfoldable pub budgets_of : Data → Result Bounds BoundsRefusal
budgets_of file = do
  turns ← budget_of (codes "turns") 1000000 1000 file
  paths ← budget_of (codes "paths") 65536 1000 file
  candidates ← budget_of (codes "candidates") 65536 64 file
  steps ← budget_of (codes "steps") 9007199254740991 1000000 file
  width ← budget_of (codes "width") 1000000000 20000000 file
  Ok (record { turns = turns; paths = paths; candidates = candidates; steps = steps; width = width; pieces = 1; inputs = [] })

-- 4. The inputs are an array of at most 16 objects.

-- How many there are.
abbrev pub items_count : Items → ℕ
items_count no_items = 0
items_count (item d ds) = suc (items_count ds)

-- Each of them is an object.
abbrev pub are_objects : Items → Bool
are_objects no_items = true
are_objects (item d ds) = is_some (as_object d) && are_objects ds

-- Refused where there is no array.
abbrev pub as_list : Option Items → Result Items BoundsRefusal
as_list None = field (codes "inputs")
as_list (Some ds) = if nat_lt 16 (items_count ds) then field (codes "inputs") else (if are_objects ds then Ok ds else field (codes "inputs"))

-- The member `inputs` of the file.
unfoldable pub list_of : Data → Result Items BoundsRefusal
list_of file = as_list (option_and_then as_array (get (codes "inputs") file))

-- 5. Each input, in order: its name, its kind, its other members, its range, its alphabet.

-- An earlier input has this name.
abbrev pub is_declared : List ℕ → List Declared → Bool
is_declared name [] = false
is_declared name (d ∷ ds) = bytes_eq d.name name || is_declared name ds

-- An input may have this name: a Name of at most 32 units that no earlier input has.
abbrev pub is_free : List ℕ → List Declared → Bool
is_free name found = is_name name && nat_le (length name) 32 && not (is_declared name found)

-- Refused where there is no text.
abbrev pub named : List Declared → Option (List ℕ) → Result (List ℕ) BoundsRefusal
named found None = field (codes "name")
named found (Some name) = if is_free name found then Ok name else field (codes "name")

-- The member `name` of an input.
unfoldable pub name_of : List Declared → Data → Result (List ℕ) BoundsRefusal
name_of found d = named found (option_and_then as_str (get (codes "name") d))

-- It is there, and it is this text.
abbrev pub is_text : List ℕ → Option (List ℕ) → Bool
is_text text None = false
is_text text (Some found) = bytes_eq found text

-- The member `kind` of an input is this text.
abbrev pub is_kind : List ℕ → Data → Bool
is_kind kind d = is_text kind (option_and_then as_str (get (codes "kind") d))

-- The kinds are `int` and `text`.
unfoldable pub kind_of : Data → Result ⊤ BoundsRefusal
kind_of d = if is_kind (codes "int") d || is_kind (codes "text") d then Ok tt else field (codes "kind")

-- Refused where there is no whole number of 64 bits.
abbrev pub whole : List ℕ → Option ℤ → Result ℤ BoundsRefusal
whole name None = field name
whole name (Some n) = Ok n

-- A member of an input that is a number.
unfoldable pub number_of : List ℕ → Data → Result ℤ BoundsRefusal
number_of name d = whole name (option_and_then as_integer (option_and_then as_number (get name d)))

-- 2^53 - 1: up to it each whole number is a number of the language.
abbrev pub max_safe : ℤ
max_safe = pos 9007199254740991

-- No greater than that, and no less than its opposite.
abbrev pub is_safe : ℤ → Bool
is_safe n = int_le (negsuc 9007199254740990) n && int_le n max_safe

-- The bounds of an input are safe, and at least one number lies within them.
unfoldable pub range_of : List ℕ → ℤ → ℤ → Result Kind BoundsRefusal
range_of name low high = if int_le low high && is_safe low && is_safe high then Ok (kinds.Int low high) else Err (refusal.Range name)

-- An input of the kind `int`: its ends, then its range.
unfoldable pub numbers_of : List ℕ → Data → Result Kind BoundsRefusal
numbers_of name d = do
  low ← number_of (codes "low") d
  high ← number_of (codes "high") d
  range_of name low high

-- A whole number from 0 to 64.
abbrev pub length_of : ℤ → Option ℕ
length_of (negsuc n) = None
length_of (pos n) = if nat_le n 64 then Some n else None

-- Refused where there is no text, else its code units.
abbrev pub units_or : List ℕ → Option (List ℕ) → Result (List ℕ) BoundsRefusal
units_or name None = field name
units_or name (Some text) = Ok (code_units text)

-- The member `alphabet` of an input.
unfoldable pub alphabet_of : Data → Result (List ℕ) BoundsRefusal
alphabet_of d = units_or (codes "alphabet") (option_and_then as_str (get (codes "alphabet") d))

-- No unit stands there twice.
abbrev pub are_distinct : List ℕ → Bool
are_distinct [] = true
are_distinct (u ∷ us) = not (list_any (nat_eq u) us) && are_distinct us

-- An alphabet has 1 to 256 units, all different.
abbrev pub is_alphabet : List ℕ → Bool
is_alphabet units = nat_le 1 (length units) && nat_le (length units) 256 && are_distinct units

-- Behind the lengths comes the alphabet.
abbrev pub spelt : List ℕ → ℕ → ℕ → List ℕ → Result Kind BoundsRefusal
spelt name least most alphabet = if is_alphabet alphabet then Ok (kinds.Text least most alphabet) else Err (refusal.Alphabet name)

-- Neither length is below 0 or above 64, and the least isn't above the most.
abbrev pub lengths_of : List ℕ → Option ℕ → Option ℕ → List ℕ → Result Kind BoundsRefusal
lengths_of name None most alphabet = Err (refusal.Range name)
lengths_of name (Some least) None alphabet = Err (refusal.Range name)
lengths_of name (Some least) (Some most) alphabet = if nat_le least most then spelt name least most alphabet else Err (refusal.Range name)

-- An input of the kind `text`: its lengths and its alphabet, then what each may be.
unfoldable pub texts_of : List ℕ → Data → Result Kind BoundsRefusal
texts_of name d = do
  least ← number_of (codes "least") d
  most ← number_of (codes "most") d
  alphabet ← alphabet_of d
  lengths_of name (length_of least) (length_of most) alphabet

-- What an input of its kind may be.
abbrev pub values_of_kind : List ℕ → Data → Result Kind BoundsRefusal
values_of_kind name d = if is_kind (codes "int") d then numbers_of name d else texts_of name d

-- One input, behind those that were found before it.
unfoldable pub declared_of : List Declared → Data → Result Declared BoundsRefusal
declared_of found d = do
  name ← name_of found d
  _ ← kind_of d
  kind ← values_of_kind name d
  Ok (record { name = name; kind = kind })

-- All inputs, behind those that were found before them.
abbrev pub declared_from : List Declared → Items → Result (List Declared) BoundsRefusal
declared_from found no_items = Ok found
declared_from found (item d ds) = declared_of found d >>= λ x. declared_from (found ++ x ∷ []) ds

-- 6. No other members: those of the file in byte order, then those of each input.

-- Refused for the first member that isn't allowed, by the code units of its name.
abbrev pub only : List (List ℕ) → Members → Result ⊤ BoundsRefusal
only allowed no_members = Ok tt
only allowed (member name d ms) = if is_among name allowed then only allowed ms else field (code_units name)

-- None where there is no object.
abbrev pub members_or : Option Members → Members
members_or None = no_members
members_or (Some ms) = ms

-- The members of an object.
abbrev pub members_of : Data → Members
members_of d = members_or (as_object d)

-- The members that the file may have.
abbrev pub file_members : List (List ℕ)
file_members = codes "version" ∷ codes "inputs" ∷ codes "turns" ∷ codes "paths" ∷ codes "candidates" ∷ codes "steps" ∷ codes "width" ∷ []

-- The members that an input of the kind `int` may have.
abbrev pub int_members : List (List ℕ)
int_members = codes "name" ∷ codes "kind" ∷ codes "low" ∷ codes "high" ∷ []

-- The members that an input of the kind `text` may have.
abbrev pub text_members : List (List ℕ)
text_members = codes "name" ∷ codes "kind" ∷ codes "least" ∷ codes "most" ∷ codes "alphabet" ∷ []

-- The members that an input may have, by its kind.
abbrev pub input_members : Data → List (List ℕ)
input_members d = if is_kind (codes "int") d then int_members else text_members

-- The members of each input, in order.
abbrev pub only_in_each : Items → Result ⊤ BoundsRefusal
only_in_each no_items = Ok tt
only_in_each (item d ds) = only (input_members d) (members_of d) >>= λ x. only_in_each ds

-- The bounds of a file, or the first reason against them.
unfoldable pub form : List ℕ → Result Bounds BoundsRefusal
form bytes = do
  file ← object_of bytes
  _ ← version_of file
  budgets ← budgets_of file
  list ← list_of file
  inputs ← declared_from [] list
  _ ← only file_members (members_of file)
  _ ← only_in_each list
  Ok (record { turns = budgets.turns; paths = budgets.paths; candidates = budgets.candidates; steps = budgets.steps; width = budgets.width; pieces = budgets.pieces; inputs = inputs })
