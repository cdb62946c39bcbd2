use Rattle.std.proofs.Common.{arith}
use Rattle.cnf_core.specs.Literals.{lit_true}
use Rattle.bit_words.specs.Words.{word_value}
use Rattle.bit_words.proofs.Composed.{built_both}
use Rattle.bit_words.proofs.Composed.{built_then}
use Rattle.bit_words.proofs.Dividing.{rest_value, sign_word}
use Rattle.bit_words.proofs.builder.Builder.rest_words.Goals as goal

pub returns-clause-word : goal.returns-clause-word
returns-clause-word c =
    let a = c.args.a.now in
    let b = c.args.b.now in
    let x = c.sign.result in
    let g = c.in_ok-never.ensures.gate in
    let h = c.in_ok-quotient.ensures.divided in
    let l = c.in_ok-signed.ensures.word in
    let m = c.in_ok-word.ensures.word in
    record {
      some = omega (arith, c.in_ok-word.ensures.width, c.in_ok-signed.ensures.width);
      built = built_both (built_then (built_then g h) l) m
          (omega (arith, c.in_ok-word.ensures.width, c.in_ok-signed.ensures.width, c.in_ok-quotient.ensures.rest_width)) m.names
          (λ v p q. let n = p.0.0 in
          rest_value (lit_true v x) (word_value v a) (word_value v b) (word_value v c.in_ok-signed.signed) (word_value v c.in_ok-quotient.rest) (word_value v c.in_ok-word.word)
          (sign_word v a x c.requires.some_a c.sign.ensures) (λ some. (p.0.1 n some).1) (p.1 n) (q n));
    }
