use Rattle.std.proofs.Common.{ℕ, ◌≡◌, ◌∙◌, ap, sym, arith, length, ◌-◌, ◌+◌, ◌++◌, [], ◌∷◌, replicate, append_assoc}
use Rattle.std.proofs.lemmas.Grind.{replicate_next}
use Rattle.bit_words.specs.Words.{word_value}
use Rattle.bit_words.proofs.Lists.{padded_is, extended_value}
use Rattle.bit_words.proofs.words.BitInt.extended.Goals as goal

pub more-preserved : goal.more-preserved
more-preserved c =
    let k : ℕ = c.more.counter - length c.args.self.now in
    let x = c.sign-sign.result in
    let e : c.more.counter + 1 - length c.args.self.now ≡ k + 1 = omega arith in
    c.in_ok-push.ensures.items ∙ ap (λ l. l ++ x ∷ []) c.more.invariant ∙ append_assoc c.args.self.now (replicate k x) (x ∷ [])
    ∙ sym (ap (λ l. c.args.self.now ++ l) (ap (λ n. replicate n x) e ∙ replicate_next k x))

pub returns-clause-bits : goal.returns-clause-bits
returns-clause-bits c =
    let k : ℕ = c.args.width - length c.args.self.now in
    let x = c.sign-sign.result in
    let e : c.more.counter - length c.args.self.now ≡ k = omega arith in
    c.more.invariant ∙ ap (λ n. c.args.self.now ++ replicate n x) e ∙ padded_is k c.args.self.now x c.requires.some c.sign-sign.ensures

pub returns-clause-value : goal.returns-clause-value
returns-clause-value c = λ v.
    ap (word_value v) (returns-clause-bits c) ∙ extended_value v (c.args.width - length c.args.self.now) c.args.self.now
