use Rattle.std.proofs.Common.{ℕ, subst}
use Rattle.std.proofs.lemmas.List.{length-map}
use Rattle.cnf_core.specs.Literals.{lit_true}
use Rattle.bit_words.specs.Words.{bits, int_of, FitsIn}
use Rattle.bit_words.proofs.Numbers.{int_of-fits}
use Rattle.bit_words.proofs.words.BitInt.width.Goals as goal

pub returns-clause-range : goal.returns-clause-range
returns-clause-range c = λ v.
    let e = length-map c.args.self.now (lit_true v) in
    let P : ℕ → Type 0 = λ n. FitsIn n (int_of (bits v c.args.self.now)) in
    subst P e (int_of-fits (bits v c.args.self.now))
