-- What a call answers where a definition says what it would with ample memory. A crate gives its own table of the refusal
-- that is want of memory, and says how its definition tells an answer.
use Rattle.std.specs.Prelude.{◌≡◌, Bool, true, false, Option, Some, None, Result, Ok, Err}

-- a definition that says what is read, and of a refusal nothing but that there is one
abbrev pub untold : {Y E : Type 0} → Result Y E → Option Y
untold (Ok y) = Some y
untold (Err e) = None

-- want of memory says nothing; any other refusal is the definition's
abbrev pub Fails : {R : Type 0} → Bool → R → R → Type 0
Fails true read told = Unit {0}
Fails false read told = read ≡ told

-- what is answered is what the definition reads: seen by `see`, and told as the definition tells it
abbrev pub Gives : {X Y E R : Type 0} → (E → Bool) → (Result Y E → R) → (X → Y) → Result X E → R → Type 0
Gives is_memory tell see (Ok x) read = read ≡ tell (Ok (see x))
Gives is_memory tell see (Err e) read = Fails (is_memory e) read (tell (Err e))
