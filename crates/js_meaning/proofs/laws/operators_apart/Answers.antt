use Rattle.js_meaning.proofs.RowsApart.{binary_apart, unary_apart, unary_value, step_apart}
use Rattle.js_meaning.proofs.laws.operators_apart.Goals as goal

pub returns : goal.returns
returns c = record { binary = λ o site x y. binary_apart o site x y; unary = λ o site x objects. unary_apart o site x objects; unary_value = λ o site x objects. unary_value o site x objects; step = λ o site x. step_apart o site x }
