use Rattle.re_ast.proofs.Starts.{finds}
use Rattle.re_ast.proofs.laws.search_finds_the_first.Goals as goal

pub returns : goal.returns
returns c = λ pattern text from within. finds pattern text from within
