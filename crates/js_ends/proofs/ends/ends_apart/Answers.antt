use Rattle.js_ends.proofs.Laws.{ends_apart}
use Rattle.js_ends.proofs.ends.ends_apart.Goals as goal

pub returns : goal.returns
returns c = record { apart = λ bytes script bounds values answers h l. ends_apart bytes script bounds values answers h l }
