use Rattle.re_ast.proofs.Within.{succ_forward}
use Rattle.re_ast.proofs.laws.ends_lie_ahead.Goals as goal

pub returns : goal.returns
returns c = λ flags text tree st within. succ_forward text flags tree st within
