use Rattle.std.proofs.Common.{sym, ◌∙◌}
use Rattle.path_core.proofs.Alphabet.{texts}
use Rattle.path_core.proofs.declaring.spelt.Goals as goal

pub returns-then-is_alphabet-clause-range : goal.returns-then-is_alphabet-clause-range
returns-then-is_alphabet-clause-range c = texts c.args.least c.args.most c.args.alphabet c.requires.ordered c.requires.short (sym c.is_alphabet.ensures ∙ c.if-is_alphabet.true)
