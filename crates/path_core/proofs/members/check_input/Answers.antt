use Rattle.std.proofs.Common.{sym, ◌∙◌}
use Rattle.path_core.proofs.members.check_input.Goals as goal

pub returns-else-is_kind : goal.returns-else-is_kind
returns-else-is_kind c = rw (sym c.is_kind.ensures ∙ c.if-is_kind.false) c.check_others-else-is_kind.ensures
