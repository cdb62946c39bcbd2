use Rattle.std.proofs.Common.{◌≡◌, ◌∙◌, ap, take, rules}
use Rattle.bit_words.specs.Words.{word_value}
use Rattle.bit_words.proofs.Lists.{narrowed_value, narrowed_fits}
use Rattle.bit_words.proofs.words.BitInt.narrowed.Goals as goal

pub returns-clause-value : goal.returns-clause-value
returns-clause-value c = λ v f.
    let e : c.extend_from_slice.new.self.items ≡ take c.args.width c.args.self.now = search rules in
    ap (word_value v) e ∙ narrowed_value v c.args.width c.args.self.now c.requires.some c.requires.fits f

pub returns-clause-range : goal.returns-clause-range
returns-clause-range c = λ v.
    let e : c.extend_from_slice.new.self.items ≡ take c.args.width c.args.self.now = search rules in
    rw e (narrowed_fits v c.args.width c.args.self.now c.requires.fits)
