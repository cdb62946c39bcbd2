use Rattle.std.proofs.Common.{◌∙◌, ◌-◌, ap, reverse, drop, length}
use Rattle.pile.proofs.Cutting.{reverse_take}
use Rattle.pile.proofs.Pile.cut.Goals as goal

pub returns : goal.returns
returns g c = ap reverse c.truncate.ensures.items ∙ reverse_take c.args.count _ ∙ ap (λ v. drop (length v - c.args.count) v) c.self.view_is
