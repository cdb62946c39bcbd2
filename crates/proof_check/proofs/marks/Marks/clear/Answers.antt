use Rattle.std.proofs.Common.{ap, sym, ◌∙◌, length, drop}
use Rattle.proof_check.specs.Marking.{Marking, cleared, is_false}
use Rattle.proof_check.specs.Stamps.{marked_by}
use Rattle.proof_check.proofs.Stamping.{cleared_by, none_wrong, whole}
use Rattle.proof_check.proofs.marks.Marks.clear.Goals as goal

pub returns-clause-value : goal.returns-clause-value
returns-clause-value c =
    let variables = c.self.inside.variables in
    let present = c.next_stamp-self-inside.result in
    let stamps = c.next_stamp-self-inside.new.stamps in
    let long = c.next_stamp-self-inside.ensures.length ∙ ap length c.deref_mut.ensures.value in
    ap (λ ss. let marking : Marking = record { variables = variables; marked = marked_by ss present } in marking)
    (whole c.self.inside.stamps.len stamps (drop (length stamps) c.self.inside.stamps.items) (long ∙ sym c.self.inside.stamps.ok.0))
    ∙ (cleared_by variables present stamps c.next_stamp-self-inside.ensures.fresh (long ∙ c.self.invariant.places)
    ∙ ap (λ (m : Marking). cleared m.variables) c.self.view_is)

pub returns-clause-none : goal.returns-clause-none
returns-clause-none c = ap is_false (returns-clause-value c) ∙ none_wrong c.args.self.now.variables
