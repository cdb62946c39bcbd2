-- Classes of code units that patterns alone have (ECMA-262, sections 22.2.1 and B.1.2).
use Rattle.std.specs.Prelude.{ℕ, ◌==◌, ◌&&◌, ◌||◌, nat_lt, not, Bool, Option, Some, None, if◌then◌else◌}
use Rattle.js_units.specs.Characters.{is_letter, is_digit}

-- the units below 128 that are no letter, no digit and no `_`
unfoldable pub is_sign : ℕ → Bool
is_sign u = nat_lt u 128 && not (is_letter u || is_digit u || u == 95)

-- ControlEscape: `f` `n` `r` `t` `v`
unfoldable pub control_of : ℕ → Option ℕ
control_of u =
    if u == 102 then Some 12
    else (if u == 110 then Some 10
    else (if u == 114 then Some 13
    else (if u == 116 then Some 9
    else (if u == 118 then Some 11
    else None))))
