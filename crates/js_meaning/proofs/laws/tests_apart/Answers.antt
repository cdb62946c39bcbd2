use Rattle.js_meaning.proofs.RowsApart.{test_apart, logical_apart}
use Rattle.js_meaning.proofs.laws.tests_apart.Goals as goal

pub returns : goal.returns
returns c = record { test = λ site x. test_apart site x; logical = λ o site x. logical_apart o site x }
