use Rattle.std.proofs.Common.{◌∙◌, sym, arith, length}
use Rattle.bit_words.specs.Words.{word_value}
use Rattle.bit_words.proofs.Composed.{built_as}
use Rattle.int_encoder.proofs.Safe.{small_safe}
use Rattle.int_encoder.proofs.safety.fits.Goals as goal

pub returns-then-width-lt-SAFE_WIDTH-clause-gate : goal.returns-then-width-lt-SAFE_WIDTH-clause-gate
returns-then-width-lt-SAFE_WIDTH-clause-gate c =
    let g = c.in_ok-always.ensures.gate in
    built_as g (omega arith) g.names (λ v p. p ∙ sym (small_safe (length c.args.a.now) (word_value v c.args.a.now) (omega arith) (c.width.ensures.range v)))
