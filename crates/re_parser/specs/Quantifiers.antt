-- Quantifiers (ECMA-262, sections 22.2.1 and B.1.2). No number is above 65,535: that limit is this project's own.
use Rattle.std.specs.Prelude.{ℕ, ◌+◌, ◌*◌, ◌-◌, ◌==◌, ◌&&◌, nat_le, min, Bool, true, false, List, [], ◌∷◌, Option, Some, None, if◌then◌else◌}
use Rattle.js_units.specs.Characters.{is_digit}
use Rattle.re_parser.specs.Escapes.{starts}
use Rattle.re_parser.specs.declared.kinds.Quantifier.{Quantifier}
use Rattle.re_parser.specs.declared.kinds.Braces.{Braces}

-- DecimalDigits: the number of the digits in front, where each number above 65,536 counts as that, and what is behind them
abbrev pub digits_from : ℕ → List ℕ → ℕ × List ℕ
digits_from value [] = (value, [])
digits_from value (u ∷ us) = if is_digit u then digits_from (min (value * 10 + (u - 48)) 65536) us else (value, u ∷ us)

-- at least one digit
unfoldable pub number_at : List ℕ → Option (ℕ × List ℕ)
number_at units = if starts is_digit units then Some (digits_from 0 units) else None

-- behind a number, `}`
abbrev pub closed_by : ℕ → Option ℕ → List ℕ → Option (Braces × List ℕ)
closed_by least most [] = None
closed_by least most (u ∷ us) = if u == 125 then Some (record { least = least; most = most }, us) else None

abbrev pub most_by : ℕ → List ℕ → Option (ℕ × List ℕ) → Option (Braces × List ℕ)
most_by least units None = closed_by least None units
most_by least units (Some x) = closed_by least (Some x.0) x.1

abbrev pub behind_least : ℕ → List ℕ → Option (Braces × List ℕ)
behind_least least [] = None
behind_least least (u ∷ us) =
    if u == 44 then most_by least us (number_at us) else closed_by least (Some least) (u ∷ us)

abbrev pub least_by : Option (ℕ × List ℕ) → Option (Braces × List ℕ)
least_by None = None
least_by (Some x) = behind_least x.0 x.1

-- behind `{`: a number, a number and `,`, or two numbers with `,` between them, and `}`
unfoldable pub braces_at : List ℕ → Option (Braces × List ℕ)
braces_at units = least_by (number_at units)

abbrev pub is_most : ℕ → Option ℕ → Bool
is_most least None = true
is_most least (Some n) = nat_le n 65535 && nat_le least n

-- no number is too large, and the first isn't above the second
abbrev pub is_proper : Braces → Bool
is_proper b = nat_le b.least 65535 && is_most b.least b.most

-- a `?` behind a quantifier makes it lazy
abbrev pub lazy_by : ℕ → Option ℕ → List ℕ → Option (Quantifier × List ℕ)
lazy_by least most [] = Some (record { min = least; max = most; lazy = false }, [])
lazy_by least most (u ∷ us) =
    if u == 63 then Some (record { min = least; max = most; lazy = true }, us)
    else Some (record { min = least; max = most; lazy = false }, u ∷ us)

abbrev pub braced_by : Option (Braces × List ℕ) → Option (Quantifier × List ℕ)
braced_by None = None
braced_by (Some x) = if is_proper x.0 then lazy_by x.0.least x.0.most x.1 else None

-- Quantifier: `*` `+` `?` or braces, each with `?` for lazy, and what is behind it
unfoldable pub quantifier_at : List ℕ → Option (Quantifier × List ℕ)
quantifier_at [] = None
quantifier_at (u ∷ us) =
    if u == 42 then lazy_by 0 None us
    else (if u == 43 then lazy_by 1 None us
    else (if u == 63 then lazy_by 0 (Some 1) us
    else (if u == 123 then braced_by (braces_at us)
    else None)))
