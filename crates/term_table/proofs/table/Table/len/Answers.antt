use Rattle.std.proofs.Common.{subst, List}
use Rattle.std.specs.Map.{keys_of}
use Rattle.term_table.specs.declared.term.Term.{Term}
use Rattle.term_table.specs.Growing.{AreDistinct}
use Rattle.term_table.proofs.Adding.{distinct_terms}
use Rattle.term_table.proofs.table.Table.len.Goals as goal

pub returns-clause-distinct : goal.returns-clause-distinct
returns-clause-distinct c =
    subst (λ (x : List Term). AreDistinct x) c.self.view_is (distinct_terms (keys_of c.self.inside.terms.entries) c.len.ensures.unique)
