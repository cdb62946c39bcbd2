-- Tests of order.
use Rattle.std.proofs.Common.{ℤ, Bool, true, false, ◌&&◌, ◌≡◌, refl, ◌≤ℤ◌, int_le, T}
use Rattle.std.specs.Bool.{Decides}
use Rattle.std.specs.Int.Signed.{le_z_yes}

of_T : (b : Bool) → T b → b ≡ true
of_T true h = refl
of_T false h = absurd h

to_T : (b : Bool) → b ≡ true → T b
to_T true h = tt
to_T false h = absurd (cc)

pub le_decides : (p q : ℤ) → Decides (int_le p q) (p ≤ℤ q)
le_decides p q = (λ h. le_z_yes (to_T (int_le p q) h), λ l. of_T (int_le p q) l.le)

pub and_left : (a b : Bool) → (a && b) ≡ true → a ≡ true
and_left true b h = refl
and_left false b h = h

pub and_right : (a b : Bool) → (a && b) ≡ true → b ≡ true
and_right true b h = h
and_right false b h = absurd (cc)
