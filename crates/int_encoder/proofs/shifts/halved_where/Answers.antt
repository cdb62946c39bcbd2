use Rattle.std.proofs.Common.{◌≡◌, ◌∙◌, ap, arith, length, ◌-◌, if◌then◌else◌}
use Rattle.std.proofs.lemmas.List.{length-drop}
use Rattle.cnf_core.specs.Literals.{lit_true}
use Rattle.bit_words.specs.Words.{word_value}
use Rattle.bit_words.proofs.Lists.{drop_names}
use Rattle.bit_words.proofs.Composed.{built_as}
use Rattle.int_encoder.proofs.Shifting.{upper_word}
use Rattle.int_encoder.proofs.shifts.halved_where.Goals as goal

pub choose_words-requires-clause-a : goal.choose_words-requires-clause-a
choose_words-requires-clause-a c = rw c.in_ok-upper.ensures.bits (drop_names _ c.args.by c.args.a.now c.requires.a)

pub returns-clause-word : goal.returns-clause-word
returns-clause-word c =
    let a = c.args.a.now in
    let g = c.in_ok-word.ensures.word in
    let l : length c.in_ok-upper.upper ≡ length a - c.args.by = ap length c.in_ok-upper.ensures.bits ∙ length-drop c.args.by a in
    record {
      some = g.some;
      built = built_as g.built (omega (arith, l)) g.built.names
          (λ v p. p ∙ ap (λ z. if lit_true v c.args.when then z else word_value v a) (ap (word_value v) c.in_ok-upper.ensures.bits ∙ upper_word v c.args.by a c.requires.fewer));
    }
