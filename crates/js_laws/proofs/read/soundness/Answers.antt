use Rattle.js_laws.proofs.Sound.{whole_sound, shallow_sound}
use Rattle.js_laws.proofs.read.soundness.Goals as goal

pub returns : goal.returns
returns c = record { whole = λ ts body h. whole_sound ts body h; shallow = λ ts body h. shallow_sound ts body h }
