use Rattle.js_meaning.proofs.TextOrder.{is_less, less_is}
use Rattle.js_meaning.proofs.laws.strings_ordered.Goals as goal

pub returns : goal.returns
returns c = record { less = λ a b. (is_less a b, less_is a b) }
