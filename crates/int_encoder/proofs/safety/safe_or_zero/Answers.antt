use Rattle.std.proofs.Common.{◌≡◌, arith, length, All}
use Rattle.cnf_core.specs.Literals.{Names}
use Rattle.bit_words.specs.Words.{word_value}
use Rattle.bit_words.proofs.Lists.{padded_names}
use Rattle.bit_words.proofs.Composed.{built_as}
use Rattle.bit_words.proofs.Composed.{built_none}
use Rattle.int_encoder.proofs.Safe.{small_word}
use Rattle.int_encoder.proofs.safety.safe_or_zero.Goals as goal

pub returns-then-width-lt-SAFE_WIDTH-clause-word : goal.returns-then-width-lt-SAFE_WIDTH-clause-word
returns-then-width-lt-SAFE_WIDTH-clause-word c =
    let a = c.args.a.now in
    let n = c.args.builder.now.variables in
    let same = c.in_ok-same.same in
    let names : All (Names n) same = rw c.in_ok-same.ensures.bits (padded_names n _ a c.requires.a) in
    record {
      some = omega (arith, c.in_ok-same.ensures.width, c.requires.some);
      built = built_as (built_none c.args.builder.now same (λ v. word_value v same ≡ word_value v a) names (c.in_ok-same.ensures.value)) (omega arith) names
          (λ v p. small_word (length a) (word_value v a) (word_value v same) (omega arith) (c.width.ensures.range v) p);
    }
