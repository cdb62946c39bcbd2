use Rattle.js_ends.proofs.Tokens.{tokens_rise}
use Rattle.js_ends.proofs.ends.tokens_rise.Goals as goal

pub returns : goal.returns
returns c = record { rising = λ text at tokens h. tokens_rise text at tokens h }
