use Rattle.std.proofs.Common.{ℤ, List, ◌∙◌, ap, sym, subst, arith, length, ◌+◌, [], ◌∷◌, All}
use Rattle.std.proofs.lemmas.List.{length-append}
use Rattle.std.proofs.lemmas.List.Elements.{All-append}
use Rattle.cnf_core.specs.Literals.{Names}
use Rattle.bit_words.proofs.Composed.{named_one}
use Rattle.bit_words.proofs.Within.{all_later}
use Rattle.bit_words.proofs.builder.Builder.new_word.Goals as goal

pub bits-preserved : goal.bits-preserved
bits-preserved c =
    let n = c.new_bit-bit.new.self.variables in
    let bit = c.new_bit-bit.result in
    let P : ℤ → Type 0 = λ z. Names n z in
    let Q : List ℤ → Type 0 = λ l. All (Names n) l in
    let name : Names n bit = subst P (sym c.new_bit-bit.ensures.literal) (omega (arith, c.new_bit-bit.ensures.variables), omega arith) in
    record {
      clauses = c.new_bit-bit.ensures.clauses ∙ c.bits.invariant.clauses;
      variables = omega (arith, c.new_bit-bit.ensures.variables, c.bits.invariant.variables);
      names = subst Q (sym c.in_ok-push.ensures.items) (All-append (Names n) c.bits.bits.items (bit ∷ [])
          (all_later c.bits.self.variables n c.bits.bits.items c.bits.invariant.names (omega (arith, c.new_bit-bit.ensures.variables))) (named_one n bit name));
      length = ap length c.in_ok-push.ensures.items ∙ length-append c.bits.bits.items (bit ∷ []) ∙ ap (λ k. k + 1) c.bits.invariant.length;
    }
