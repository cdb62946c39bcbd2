-- Flags of patterns (ECMA-262, section 22.2.3.4).
use Rattle.std.specs.Prelude.{◌≡◌, ◌<◌, ℕ, ◌==◌, suc, true, false, List, [], ◌∷◌, length, take, Option, Some, None, Result, Ok, Err, if◌then◌else◌}
use Rattle.re_ast.specs.declared.patterns.Flags.{Flags}

abbrev pub no_flags : Flags
no_flags = record { global = false; ignore_case = false; multiline = false; sticky = false }

-- with one flag more, that isn't set yet
unfoldable pub with_flag : Flags → ℕ → Option Flags
with_flag f u =
    if u == 103 then (if f.global then None else Some (record f { global = true }))
    else (if u == 105 then (if f.ignore_case then None else Some (record f { ignore_case = true }))
    else (if u == 109 then (if f.multiline then None else Some (record f { multiline = true }))
    else (if u == 121 then (if f.sticky then None else Some (record f { sticky = true }))
    else None)))

-- the first unit, and those behind it
abbrev pub first_at : List ℕ → Option (ℕ × List ℕ)
first_at [] = None
first_at (u ∷ us) = Some (u, us)

abbrev pub flags_by : (Flags → Option Flags) → Option Flags → Option Flags
flags_by more None = None
flags_by more (Some f) = more f

abbrev pub flags_from : Flags → List ℕ → Option Flags
flags_from f [] = Some f
flags_from f (u ∷ us) = flags_by (λ g. flags_from g us) (with_flag f u)

-- `g`, `i`, `m` and `y`, each at most once
abbrev pub flags_of : List ℕ → Option Flags
flags_of units = flags_from no_flags units

-- the first unit that is no flag, or a repeat
pub record IsBadFlag (units : List ℕ) (at : ℕ) : Type 0 where
  pub within : at < length units
  pub before : (f : Flags) × (flags_of (take at units) ≡ Some f)
  pub here : flags_of (take (suc at) units) ≡ None

abbrev pub FlagsRead : List ℕ → Result Flags ℕ → Type 0
FlagsRead units (Ok f) = flags_of units ≡ Some f
FlagsRead units (Err at) = IsBadFlag units at
