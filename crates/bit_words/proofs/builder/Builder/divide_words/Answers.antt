use Rattle.std.proofs.Common.{pos, ◌-ℤ◌, ◌∙◌, ap, arith, if◌then◌else◌}
use Rattle.cnf_core.specs.Literals.{lit_true}
use Rattle.bit_words.specs.Words.{word_value}
use Rattle.bit_words.proofs.Composed.{built_both, name_of}
use Rattle.bit_words.proofs.Composed.{built_then}
use Rattle.bit_words.proofs.Dividing.{quotient_value, sign_word}
use Rattle.bit_words.proofs.builder.Builder.divide_words.Goals as goal

pub negated_where-requires-clause-c : goal.negated_where-requires-clause-c
negated_where-requires-clause-c c = name_of c.in_ok-apart.ensures.gate

pub returns-clause-word : goal.returns-clause-word
returns-clause-word c =
    let a = c.args.a.now in
    let b = c.args.b.now in
    let x = c.sign.result in
    let y = c.sign-2.result in
    let g = c.in_ok-never.ensures.gate in
    let h = c.in_ok-quotient.ensures.divided in
    let k = c.in_ok-apart.ensures.gate in
    let l = c.in_ok-signed.ensures.word in
    let m = c.in_ok-word.ensures.word in
    record {
      some = omega (arith, c.in_ok-word.ensures.width, c.in_ok-signed.ensures.width);
      built = built_both (built_then (built_then (built_then g h) k) l) m
          (omega (arith, c.in_ok-word.ensures.width, c.in_ok-signed.ensures.width, c.in_ok-quotient.ensures.quotient_width)) m.names
          (λ v p q. let n = p.0.0.0 in
          quotient_value (lit_true v x) (lit_true v y) (word_value v a) (word_value v b) (word_value v c.in_ok-signed.signed) (word_value v c.in_ok-quotient.quotient) (word_value v c.in_ok-word.word)
          (sign_word v a x c.requires.some_a c.sign.ensures) (sign_word v b y c.requires.some_b c.sign-2.ensures)
          (λ some. (p.0.0.1 n some).0)
          (p.1 n ∙ ap (λ z. if z then pos 0 -ℤ word_value v c.in_ok-quotient.quotient else word_value v c.in_ok-quotient.quotient) p.0.1) (q n));
    }
