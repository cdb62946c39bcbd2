use Rattle.std.proofs.Common.{List, ℕ, Option, sym, subst}
use Rattle.js_units.specs.Unquoted.{IsUnescaped}
use Rattle.js_units.proofs.ReadBack.{unescaped}
use Rattle.js_units.proofs.unquoting.unescape.Goals as goal

pub returns : goal.returns
returns c = subst (λ (q : Option (List ℕ)). IsUnescaped c.args.bytes.now q) (sym c.whole.ensures) (unescaped c.args.bytes.now _ (sym c.in_ok-found.ensures))
