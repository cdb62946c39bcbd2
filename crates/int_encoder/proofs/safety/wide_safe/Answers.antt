use Rattle.std.proofs.Common.{arith, take}
use Rattle.bit_words.proofs.Lists.{take_names}
use Rattle.bit_words.proofs.Composed.{built_both, built_then}
use Rattle.bit_words.proofs.Within.{all_later}
use Rattle.int_encoder.proofs.Safe.{safe_word}
use Rattle.int_encoder.proofs.safety.wide_safe.Goals as goal

pub never-requires : goal.never-requires
never-requires c = record { space = omega (arith, c.requires.space, c.requires.wide, c.in_ok-is_safe.ensures.gate.few) }

pub choose_words-requires-clause-space : goal.choose_words-requires-clause-space
choose_words-requires-clause-space c =
    omega (arith, c.requires.space, c.requires.wide, c.in_ok-is_safe.ensures.gate.few, c.in_ok-never.ensures.gate.few, c.in_ok-low.ensures.width, c.in_ok-zero.ensures.width)

pub choose_words-requires-clause-a : goal.choose_words-requires-clause-a
choose_words-requires-clause-a c = rw c.in_ok-low.ensures.bits (all_later _ _ (take 54 c.args.a.now) (take_names _ 54 c.args.a.now c.requires.a) (omega (arith, c.in_ok-is_safe.ensures.gate.variables, c.in_ok-never.ensures.gate.variables)))

pub returns-clause-word : goal.returns-clause-word
returns-clause-word c =
    let g0 = c.in_ok-is_safe.ensures.gate in
    let g1 = c.in_ok-never.ensures.gate in
    let g2 = c.in_ok-word.ensures.word in
    record {
      some = g2.some;
      built = built_both (built_then g0 g1) g2.built (omega (arith, c.in_ok-low.ensures.width, c.in_ok-zero.ensures.width, c.requires.wide)) g2.built.names
          (λ v p q. safe_word v c.args.a.now c.in_ok-low.low c.in_ok-zero.zero c.in_ok-word.word c.in_ok-is_safe.is_safe c.in_ok-never.never
          c.in_ok-zero.ensures.bits p.1 (c.in_ok-low.ensures.value v) p.0 q);
    }
