-- Opposite literals.
use Rattle.std.proofs.Common.{ℕ, zero, suc, ℤ, pos, negsuc, neg_ℤ, Bool, true, false, not, ◌≡◌, refl, arith}
use Rattle.cnf_core.specs.Literals.{Names, lit_true}
use Rattle.bit_words.specs.Builds.{Values}

not_not : (b : Bool) → b ≡ not (not b)
not_not true = refl
not_not false = refl

pub opposite_value : (n : ℕ) (z : ℤ) (v : Values) → Names n z → lit_true v (neg_ℤ z) ≡ not (lit_true v z)
opposite_value n (pos zero) v h = absurd (omega (arith, h))
opposite_value n (pos (suc k)) v h = refl
opposite_value n (negsuc k) v h = not_not (v (suc k))

pub opposite_names : (n : ℕ) (z : ℤ) → Names n z → Names n (neg_ℤ z)
opposite_names n (pos zero) h = h
opposite_names n (pos (suc k)) h = h
opposite_names n (negsuc k) h = h
