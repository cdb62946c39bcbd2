use Rattle.std.proofs.Common.{append_assoc, ◌++◌, ap, ◌∙◌, List, ℕ}
use Rattle.std.specs.Prelude.{codes}
use Rattle.report_text.specs.Lines.{head_text, costs_text}
use Rattle.report_text.proofs.report.push_wide.Goals as goal

pub returns : goal.returns
returns c =
    c.in_ok-push_costs.ensures
    ∙ ap (λ (q : List ℕ). q ++ costs_text c.args.cost c.args.terms.now) c.in_ok-push_head.ensures
    ∙ append_assoc c.args.out.now.items (head_text (codes "unknown width") c.args.query.now) (costs_text c.args.cost c.args.terms.now)
