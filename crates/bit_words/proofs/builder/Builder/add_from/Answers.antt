use Rattle.std.proofs.Common.{ℕ, ◌≡◌, ◌∙◌, ap, arith, length, ◌-◌, ◌+◌, max}
use Rattle.bit_words.specs.Words.{padded}
use Rattle.bit_words.proofs.Adding.{sum_word}
use Rattle.bit_words.proofs.Lists.{padded_names}
use Rattle.bit_words.proofs.builder.Builder.add_from.Goals as goal

pub ripple-requires-clause-a : goal.ripple-requires-clause-a
ripple-requires-clause-a c = rw c.in_ok-left.ensures.bits (padded_names _ _ c.args.a.now c.requires.a)

pub ripple-requires-clause-b : goal.ripple-requires-clause-b
ripple-requires-clause-b c = rw c.in_ok-right.ensures.bits (padded_names _ _ c.args.b.now c.requires.b)

pub returns-clause-word : goal.returns-clause-word
returns-clause-word c =
    let a = c.args.a.now in
    let b = c.args.b.now in
    let w : ℕ = max (length a) (length b) in
    let ea : c.max-width.result + 1 - length a ≡ w + 1 - length a = omega arith in
    let eb : c.max-width.result + 1 - length b ≡ w + 1 - length b = omega arith in
    sum_word _ _ a b _ _ _ _ w (omega arith) (c.in_ok-left.ensures.bits ∙ ap (λ n. padded n a) ea) (c.in_ok-right.ensures.bits ∙ ap (λ n. padded n b) eb)
    c.in_ok-sum.ensures.sum c.requires.some_a c.requires.some_b
