use Rattle.js_lexer.proofs.TokenValues.{flags_same}
use Rattle.js_lexer.proofs.values.flags_of.Goals as goal

pub returns-clause-only : goal.returns-clause-only
returns-clause-only c = λ one other h f. flags_same c.args.text.now c.args.token.now one other h f
