use Rattle.std.proofs.Common.{◌*◌, ◌+◌, ◌∷◌, [], drop}
use Rattle.bit_words.specs.Builds.{Built}
use Rattle.bit_words.proofs.Equal.{Agreeing}
use Rattle.bit_words.proofs.builder.Builder.all_agree.Given as goal

abbrev pub invariant-bits : goal.invariant-bits
invariant-bits l = Built l.fn.self l.self (1 + 2 * l.i) (l.so_far ∷ []) (Agreeing l.a l.b (drop l.i l.a) (drop l.i l.b) l.so_far)
