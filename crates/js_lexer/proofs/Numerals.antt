-- Digits, numbers and their values.
use Rattle.std.proofs.Common.{◌≡◌, ℕ, ◌+◌, ◌*◌, true, false, List, [], ◌∷◌, ◌++◌, refl, ap, ◌∙◌, arith}
use Rattle.std.specs.List.{list_all}
use Rattle.std.proofs.lemmas.Bool.{and_parts}
use Rattle.js_units.specs.Characters.{is_hexadecimal, digit_value}
use Rattle.js_lexer.specs.Runs.{starts, IsRun}
use Rattle.js_lexer.specs.Numbers.{radix, is_digit_of, value_from}
use Rattle.js_lexer.specs.Digits.{capped, capped_from}
use Rattle.js_lexer.specs.declared.numbers.Base.{Base}
use Rattle.js_lexer.specs.declared.numbers.Base.TheVariants as base

-- each digit is a hexadecimal one
pub hexadecimal_of : (b : Base) (u : ℕ) → is_digit_of b u ≡ true → is_hexadecimal u ≡ true
unfolding is_hexadecimal
hexadecimal_of base.Decimal u e = rw e refl
hexadecimal_of base.Hexadecimal u e = e

-- a digit more makes no difference between a number and what it is capped to
capped_step : (b : Base) (v d : ℕ) → capped (capped v * radix b + d) ≡ capped (v * radix b + d)
capped_step base.Decimal v d = omega arith
capped_step base.Hexadecimal v d = omega arith

capped_stop : (b : Base) (v : ℕ) (rest : List ℕ) → starts (is_digit_of b) rest ≡ false → capped_from b v rest ≡ v
capped_stop b v [] e = refl
capped_stop b v (u ∷ us) e = rw e refl

capped_run : (b : Base) (v : ℕ) (run rest : List ℕ) → list_all (is_digit_of b) run ≡ true → starts (is_digit_of b) rest ≡ false → capped_from b (capped v) (run ++ rest) ≡ capped (value_from b v run)
capped_run b v [] rest all ends = capped_stop b (capped v) rest ends
capped_run b v (d ∷ run) rest all ends =
    let parts = and_parts (is_digit_of b d) (list_all (is_digit_of b) run) all in
    rw parts.0 (ap (λ q. capped_from b q (run ++ rest)) (capped_step b v (digit_value d)) ∙ capped_run b (v * radix b + digit_value d) run rest parts.1 ends)

-- the value of the digits at the front
pub capped_is : (b : Base) (units run rest : List ℕ) → IsRun (is_digit_of b) units run rest → capped_from b 0 units ≡ capped (value_from b 0 run)
capped_is b units run rest h = ap (capped_from b 0) h.units_are ∙ capped_run b 0 run rest h.all h.ends
