use Rattle.std.proofs.Common.{◌+◌, ◌∷◌, [], drop}
use Rattle.bit_words.specs.Builds.{Built}
use Rattle.bit_words.proofs.Less.{Lesser}
use Rattle.bit_words.proofs.builder.Builder.is_less.Given as goal

abbrev pub invariant-bits : goal.invariant-bits
invariant-bits l = Built l.fn.self l.self (1 + l.i) (l.so_far ∷ []) (Lesser l.a l.b (drop l.i l.a) (drop l.i l.b) l.so_far)
