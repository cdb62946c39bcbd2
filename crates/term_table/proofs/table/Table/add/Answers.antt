use Rattle.std.proofs.Common.{◌≡◌, ◌∙◌, sym, subst, List, length, Some, None}
use Rattle.std.specs.Map.{keys_of}
use Rattle.std.proofs.lemmas.Map.Entries.{length-keys_of}
use Rattle.term_table.specs.declared.term.Term.{Term}
use Rattle.term_table.specs.Growing.{IsAdded}
use Rattle.term_table.proofs.Adding.{absent_from, added_new, added_old, flags_stay}
use Rattle.term_table.proofs.table.Table.add.Goals as goal

pub returns-in-Some-clause-added : goal.returns-in-Some-clause-added
returns-in-Some-clause-added c =
    subst (λ (x : List Term). IsAdded x x c.args.term c.in-Some.at) c.self.view_is (added_old c.args.term (keys_of c.self.inside.terms.entries) c.in-Some.at (sym c.in-Some.ensures.index))

pub returns-clause-added : goal.returns-clause-added
returns-clause-added c =
    let es = c.self.inside.terms.entries in
    subst (λ (x : List Term). IsAdded x (keys_of c.insert.new.self.entries) c.args.term c.len-id.result) c.self.view_is
    (added_new es c.insert.new.self.entries c.args.term c.len-id.result (absent_from c.args.term es (sym c.in_default.ensures.index)) c.in_ok-insert.ensures.entries (c.len-id.ensures.len ∙ sym (length-keys_of es)))

pub invariant_of-self-2 : goal.invariant_of-self-2
invariant_of-self-2 c =
    let es = c.self.inside.terms.entries in
    flags_stay es c.insert.new.self.entries c.args.term c.self.invariant (absent_from c.args.term es (sym c.in_default.ensures.index)) c.in_ok-insert.ensures.entries
