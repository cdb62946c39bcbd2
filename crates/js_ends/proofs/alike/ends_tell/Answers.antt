use Rattle.js_ends.proofs.Likeness.{ends_tell}
use Rattle.js_ends.proofs.alike.ends_tell.Goals as goal

pub returns : goal.returns
returns c = record { tells = λ before exit behind end p. ends_tell before exit behind end p }
