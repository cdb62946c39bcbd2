-- What the test of an alphabet says of its units.
use Rattle.std.proofs.Common.{◌≡◌, ◌≤◌, ℕ, List, [], ◌∷◌, length, nat_eq, nat_le, not, ◌&&◌, ◌||◌, leb-true, Bool, true, false, refl}
use Rattle.std.specs.List.{list_any, IsDistinct, AllByRecursion}
use Rattle.path_core.specs.Inputs.{AreTexts}
use Rattle.path_core.specs.Form.{are_distinct, is_alphabet}

or_first : (a b : Bool) → a || b ≡ false → a ≡ false
or_first true b h = h
or_first false b h = refl

or_second : (a b : Bool) → a || b ≡ false → b ≡ false
or_second true b h = absurd cc
or_second false b h = h

and_first : (a b : Bool) → not a && b ≡ true → a ≡ false
and_first true b h = absurd cc
and_first false b h = refl

and_second : (a b : Bool) → not a && b ≡ true → b ≡ true
and_second true b h = absurd cc
and_second false b h = h

and_all : (a b c : Bool) → a && b && c ≡ true → (a ≡ true) × (b ≡ true) × (c ≡ true)
and_all true true c h = (refl, refl, h)
and_all true false c h = absurd cc
and_all false b c h = absurd cc

none_among : (u : ℕ) (us : List ℕ) → list_any (nat_eq u) us ≡ false → AllByRecursion (λ y. nat_eq u y ≡ false) us
none_among u [] h = tt
none_among u (x ∷ xs) h = (or_first (nat_eq u x) (list_any (nat_eq u) xs) h, none_among u xs (or_second (nat_eq u x) (list_any (nat_eq u) xs) h))

pub distinct : (us : List ℕ) → are_distinct us ≡ true → IsDistinct nat_eq us
unfolding IsDistinct
distinct [] h = tt
distinct (u ∷ us) h = (none_among u us (and_first (list_any (nat_eq u) us) (are_distinct us) h), distinct us (and_second (list_any (nat_eq u) us) (are_distinct us) h))

pub texts : (least most : ℕ) (alphabet : List ℕ) → least ≤ most → most ≤ 64 → is_alphabet alphabet ≡ true → AreTexts least most alphabet
texts least most alphabet o s h =
    let p = and_all (nat_le 1 (length alphabet)) (nat_le (length alphabet) 256) (are_distinct alphabet) h in
    record {
      ordered = o;
      short = s;
      some = leb-true 1 (length alphabet) p.0;
      few = leb-true (length alphabet) 256 p.1;
      different = distinct alphabet p.2;
    }
