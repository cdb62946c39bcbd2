-- The nesting of a stack, from either end, and how deep it may be.
use Rattle.std.proofs.Common.{◌≡◌, ℕ, ◌+◌, ◌≤◌, nat_lt, Bool, true, false, List, [], ◌∷◌, reverse, refl, sym, ap, ◌∙◌, arith}
use Rattle.std.proofs.lemmas.Bool.{lt-ltb, ltb-true}
use mathlib.Core.List.{reverse_aux}
use Rattle.js_reading.specs.declared.frame.Frame.{Frame}
use Rattle.js_reading.specs.declared.frame.Frame.TheVariants as frame
use Rattle.js_reading.specs.declared.frame.Pending.TheVariants as pending
use Rattle.js_reading.specs.Frames.{begun, begins, depth, depth_before}

depth_onto : (fs ks : List Frame) → depth (reverse_aux fs ks) ≡ depth fs + depth ks
depth_onto [] ks = omega arith
depth_onto (f ∷ fs) ks = omega (arith, depth_onto fs (f ∷ ks))

pub depth_reverse : (fs : List Frame) → depth (reverse fs) ≡ depth fs
depth_reverse fs = omega (arith, depth_onto fs [])

pub alike : (a b : Bool) → (a ≡ true → b ≡ true) → (b ≡ true → a ≡ true) → a ≡ b
alike true b f g = sym (f refl)
alike false true f g = g refl
alike false false f g = refl

lt_shifted : (a b k : ℕ) → nat_lt (a + k) (b + k) ≡ nat_lt a b
lt_shifted a b k =
    alike (nat_lt (a + k) (b + k)) (nat_lt a b)
    (λ h. lt-ltb a b (omega (arith, ltb-true (a + k) (b + k) h)))
    (λ h. lt-ltb (a + k) (b + k) (omega (arith, ltb-true a b h)))

pub before_top : (f : Frame) (ks : List Frame) → nat_lt (200 + begins f) (depth (f ∷ ks)) ≡ nat_lt 200 (depth_before (f ∷ ks))
before_top f ks =
    let e : depth (f ∷ ks) ≡ begun f + depth ks + begins f = omega arith in
    ap (nat_lt (200 + begins f)) e ∙ lt_shifted 200 (begun f + depth ks) (begins f)

pub arrow_name : (n : ℕ) → nat_lt 199 n ≡ nat_lt 200 (1 + n)
arrow_name n = let e : 1 + n ≡ n + 1 = omega arith in sym (ap (nat_lt 200) e ∙ lt_shifted 199 n 1)

pub begins_most : (f : Frame) → begins f ≤ 1
begins_most (frame.Pending (pending.Prefix site op)) = omega arith
begins_most (frame.Pending (pending.Binary start first links site op)) = omega arith
begins_most (frame.Pending (pending.Logical start first links site op)) = omega arith
begins_most (frame.Pending p) = omega arith
begins_most (frame.Step site op) = omega arith
begins_most f = omega arith
