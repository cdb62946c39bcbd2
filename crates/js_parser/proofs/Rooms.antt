-- Frames leave nothing exactly where they nest deeper.
use Rattle.std.proofs.Common.{◌≡◌, ℕ, ◌+◌, ◌-◌, nat_lt, Bool, true, false, cond, List, [], ◌∷◌, Option, Some, None, refl, sym, ap, ◌∙◌, arith}
use Rattle.std.proofs.lemmas.Bool.{lt-ltb, ltb-true, ltb-false}
use Rattle.js_reading.specs.declared.frame.Frame.{Frame}
use Rattle.js_reading.specs.Frames.{begun, begins, depth}
use Rattle.js_parser.specs.Nesting.{less, left_by}
use Rattle.js_parser.proofs.Depths.{alike}

-- what a nesting leaves of the deepest
room : ℕ → ℕ → Option ℕ
room most n = cond (nat_lt most n) None (Some (most - n))

same_test : (most n k : ℕ) → nat_lt most n ≡ false → nat_lt (most - n) k ≡ nat_lt most (n + k)
same_test most n k e =
    let le = ltb-false most n e in
    alike (nat_lt (most - n) k) (nat_lt most (n + k))
    (λ h. lt-ltb most (n + k) (let l = ltb-true (most - n) k h in omega arith))
    (λ h. lt-ltb (most - n) k (let l = ltb-true most (n + k) h in omega arith))

less_by : (most n k : ℕ) (b c : Bool) → nat_lt most n ≡ b → nat_lt most (n + k) ≡ c → less (cond b None (Some (most - n))) k ≡ cond c None (Some (most - (n + k)))
less_by most n k true true e f = refl
less_by most n k true false e f = absurd (let l = ltb-true most n e in let m = ltb-false most (n + k) f in omega arith)
less_by most n k false c e f =
    let same : most - n - k ≡ most - (n + k) = omega arith in
    ap (λ (b : Bool). cond b None (Some (most - n - k))) (same_test most n k e ∙ f) ∙ ap (λ (x : ℕ). cond c None (Some x)) same

less_room : (most n k : ℕ) → less (room most n) k ≡ room most (n + k)
unfolding room
less_room most n k = less_by most n k (nat_lt most n) (nat_lt most (n + k)) refl refl

left_room : (most n : ℕ) (fs : List Frame) → left_by (room most n) fs ≡ room most (n + depth fs)
left_room most n [] = let e : n ≡ n + 0 = omega arith in ap (room most) e
left_room most n (f ∷ fs) =
    let e : n + begun f + begins f + depth fs ≡ n + depth (f ∷ fs) = omega arith in
    ap (λ (x : Option ℕ). left_by (less x (begins f)) fs) (less_room most n (begun f))
    ∙ ap (λ (x : Option ℕ). left_by x fs) (less_room most (n + begun f) (begins f))
    ∙ left_room most (n + begun f + begins f) fs
    ∙ ap (room most) e

nothing_left : (b : Bool) (n : ℕ) → cond b None (Some n) ≡ None → b ≡ true
nothing_left true n e = refl
nothing_left false n e = absurd cc

something_left : (b : Bool) (n m : ℕ) → cond b None (Some n) ≡ Some m → b ≡ false
something_left true n m e = absurd cc
something_left false n m e = refl

zero_room : (most : ℕ) (b : Bool) → nat_lt most 0 ≡ b → Some most ≡ cond b None (Some (most - 0))
zero_room most true e = absurd (let l = ltb-true most 0 e in omega arith)
zero_room most false e = let same : most ≡ most - 0 = omega arith in ap (λ (n : ℕ). Some n) same

left_is : (most : ℕ) (fs : List Frame) → left_by (Some most) fs ≡ cond (nat_lt most (depth fs)) None (Some (most - depth fs))
unfolding room
left_is most fs = ap (λ (x : Option ℕ). left_by x fs) (zero_room most (nat_lt most 0) refl) ∙ left_room most 0 fs ∙ ap (room most) (let e : 0 + depth fs ≡ depth fs = omega arith in e)

pub too_deep_none : (most : ℕ) (fs : List Frame) → left_by (Some most) fs ≡ None → nat_lt most (depth fs) ≡ true
too_deep_none most fs e = nothing_left (nat_lt most (depth fs)) (most - depth fs) (sym (left_is most fs) ∙ e)

pub too_deep_some : (most m : ℕ) (fs : List Frame) → left_by (Some most) fs ≡ Some m → nat_lt most (depth fs) ≡ false
too_deep_some most m fs e = something_left (nat_lt most (depth fs)) (most - depth fs) m (sym (left_is most fs) ∙ e)
