use Rattle.std.proofs.Common.{◌+◌, ◌++◌, ◌∷◌, ◌≡◌, [], take, drop, get_or, sym, ap, ◌∙◌}
use Rattle.std.proofs.lemmas.List.{take_more, take-append-drop}
use Rattle.sat_core.proofs.Answered.{when_some}
use Rattle.sat_core.proofs.Started.{clash_more}
use Rattle.sat_core.proofs.starting.set_up.Goals as goal

pub returns-in-Some-clause-begun : goal.returns-in-Some-clause-begun
returns-in-Some-clause-begun c =
    let all = c.args.cnf.now.clauses in
    let items = c.as_slice-clause-items.result.now in
    let i = c.loop-clause.clause-index in
    let clause = c.as_slice.result.now in
    let one : get_or items i c.clause-item.result ≡ clause = sym c.clause-item.is ∙ sym c.as_slice.ensures in
    let next : take (i + 1) all ≡ take i all ++ clause ∷ [] =
    ap (take (i + 1)) (sym c.as_slice-clause-items.ensures) ∙ (take_more items i c.clause-item.result c.loop-clause-test.true ∙ (ap (λ ls. take i ls ++ get_or items i c.clause-item.result ∷ []) c.as_slice-clause-items.ensures ∙ ap (λ x. take i all ++ x ∷ []) one)) in
    clash_more (take i all ++ clause ∷ []) (drop (i + 1) all) all c.begin.new.trail c.in-Some.number
    (sym (take-append-drop (i + 1) all) ∙ ap (λ ls. ls ++ drop (i + 1) all) next)
    (when_some c.in_ok-number.field-0 c.in-Some.number _ _ c.in-Some.is (c.in_ok-number.ensures.begun (take i all) c.loop-clause.invariant.start))
