use Rattle.js_meaning.proofs.RowsApart.{text_apart, place_apart}
use Rattle.js_meaning.proofs.laws.conversions_apart.Goals as goal

pub returns : goal.returns
returns c = record { text = λ site x. text_apart site x; place = λ site missing x. place_apart site missing x }
