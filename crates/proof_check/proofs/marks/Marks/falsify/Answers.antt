use Rattle.std.proofs.Common.{ap, sym, subst, ◌∙◌, length, set}
use Rattle.cnf_core.specs.Literals.{Names}
use Rattle.cnf_core.specs.Validity.{also}
use Rattle.proof_check.specs.Marking.{Marking, is_false}
use Rattle.proof_check.specs.Stamps.{marked_by}
use Rattle.proof_check.proofs.Stamping.{has_place, stamped_also}
use Rattle.proof_check.proofs.marks.Marks.falsify.Goals as goal

pub returns-clause-value : goal.returns-clause-value
returns-clause-value c =
    let variables = c.self.inside.variables in
    let present = c.self.inside.stamp in
    let stamps = c.self.inside.stamps.items in
    let names = subst (λ (m : Marking). Names m.variables c.args.lit) (sym c.self.view_is) c.requires in
    ap (λ i. is_false (let marking : Marking = record { variables = variables; marked = marked_by (set stamps i present) present } in marking)) c.place_of.ensures
    ∙ (stamped_also variables present stamps c.args.lit (has_place variables (length stamps) c.args.lit names c.self.invariant.places)
    ∙ ap (λ (m : Marking). also (is_false m) c.args.lit) c.self.view_is)
