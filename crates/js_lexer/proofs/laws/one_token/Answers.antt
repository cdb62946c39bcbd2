use Rattle.js_lexer.proofs.Longest.{next_same}
use Rattle.js_lexer.proofs.Onlys.{refusal_only}
use Rattle.js_lexer.proofs.laws.one_token.Goals as goal

pub returns-clause-token : goal.returns-clause-token
returns-clause-token c = λ text at g a b h f. next_same text at g a b h f

pub returns-clause-none : goal.returns-clause-none
returns-clause-none c = λ text at g r other h n. refusal_only text at g r h other n
