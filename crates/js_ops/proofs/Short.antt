-- The text of a value is short.
use Rattle.std.proofs.Common.{◌≡◌, ◌≤◌, ◌<◌, ◌+◌, ◌^◌, ℕ, pos, negsuc, length, Bool, true, false, Option, Some, None, refl, sym, subst, arith, ℤ, codes}
use lib.Signed.{mag}
use Rattle.std.specs.Fmt.{signed_decimal}
use Rattle.std.proofs.lemmas.Fmt.{length_signed_le}
use Rattle.js_values.specs.Numbers.{is_safe}
use Rattle.js_meaning.specs.Values.{Text}
use Rattle.js_meaning.specs.Conversions.{to_string, truth_text}
use Rattle.term_table.specs.declared.shadow.Plain.{Plain}
use Rattle.term_table.specs.declared.shadow.Plain.TheVariants as plain
use Rattle.term_table.specs.Fitting.{IsValue}
use Rattle.term_table.specs.Views.{plain_value}

same_text : (s t : Text) → Some t ≡ Some s → length s ≤ 65536 → length t ≤ 65536
same_text s t e h = let f : t ≡ s = grind arith in subst (λ (u : Text). length u ≤ 65536) (sym f) h

small : (n : ℤ) → is_safe n ≡ true → mag n < 9007199254740992
small (pos n) h = grind arith
small (negsuc n) h = grind arith

number_short : (n : ℤ) → is_safe n ≡ true → length (signed_decimal n) ≤ 65536
number_short n h =
    let m = small n h in
    let l = length_signed_le 16 n (omega (arith, m)) (omega (arith, m)) in
    omega (arith, l)

truth_short : (b : Bool) → length (truth_text b) ≤ 65536
truth_short true = omega arith
truth_short false = omega arith

pub short_text : (p : Plain) (t : Text) → IsValue p → Some t ≡ to_string (plain_value p) → length t ≤ 65536
short_text plain.Undefined t v e = same_text (codes "undefined") t e (omega arith)
short_text plain.Null t v e = same_text (codes "null") t e (omega arith)
short_text (plain.Bool b) t v e = same_text (truth_text b) t e (truth_short b)
short_text (plain.Int n) t v e = same_text (signed_decimal n) t e (number_short n v)
short_text plain.NotNumber t v e = same_text (codes "NaN") t e (omega arith)
short_text (plain.Text s) t v e = same_text s t e v
short_text (plain.Object o) t v e = absurd (grind arith)
