use Rattle.std.proofs.Common.{◌≤◌}
use Rattle.js_laws.proofs.Complete.{complete}
use Rattle.js_laws.proofs.spelt.completeness.Goals as goal

pub returns : goal.returns
returns c = record { whole = λ ts body h. complete (λ n. Unit {0}) ts body h; shallow = λ ts body h. complete (λ n. n ≤ 200) ts body h }
