use Rattle.re_ast.proofs.Within.{unfolds}
use Rattle.re_ast.proofs.laws.repetition_unfolds.Goals as goal

pub returns : goal.returns
returns c = λ flags text body min max lazy first past st within. unfolds text flags body min max lazy first past st within
