use Rattle.std.proofs.Common.{◌≤◌}
use Rattle.js_laws.proofs.Certain.{read_is, one_script}
use Rattle.js_laws.proofs.spelt.certainty.Goals as goal

pub returns : goal.returns
returns c = record { whole = λ ts p body r. read_is (λ n. Unit {0}) ts p body r; shallow = λ ts p body r. read_is (λ n. n ≤ 200) ts p body r; one_tree = λ ts a b h i. one_script ts a b h i }
