use Rattle.std.proofs.Common.{◌++◌, ◌∷◌, [], ap, ◌∙◌}
use Rattle.cnf_core.specs.Derivations.{known_with}
use Rattle.sat_core.proofs.Cuts.{start_cut}
use Rattle.sat_core.proofs.cutting.Resolvent.begin.Goals as goal

pub returns-clause-cut : goal.returns-clause-cut
returns-clause-cut c es conflict =
    start_cut (known_with c.args.cnf.now c.args.steps.now) es c.args.conflict _ conflict
    (λ d e k t. (c.mark_clause.ensures.marks d e).each k t)
    (c.mark_clause.ensures.clause ∙ c.new.ensures)
    (c.in_ok-push.ensures.ok ∙ ap (λ hs. hs ++ c.args.conflict ∷ []) (c.mark_clause.ensures.hints ∙ c.new-2.ensures))
