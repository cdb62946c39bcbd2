use Rattle.std.proofs.lemmas.Bool.{false≢true}
use Rattle.path_core.proofs.Taken.{event_taken, end_taken, none_taken}
use Rattle.path_core.proofs.query.Query.takes.Goals as goal

pub returns-in-Some-empty : goal.returns-in-Some-empty
returns-in-Some-empty c =
    let begins = rw (c.as_slice.ensures, c.as_slice-2.ensures) at c.in-Some-empty.ensures.found in
    end_taken c.args.self.now c.args.path.now c.in-Some-empty.field-0.now c.has_end.result begins c.in-Some-empty.len_below (rw c.as_slice-in-Some-empty.ensures at c.has_end.ensures)

pub returns-in-Some-len1-up : goal.returns-in-Some-len1-up
returns-in-Some-len1-up c =
    let begins = rw (c.as_slice.ensures, c.as_slice-2.ensures) at c.in-Some-len1-up.ensures.found in
    event_taken c.args.self.now c.args.path.now c.in-Some-len1-up.field-0.now c.next-item.result c.has_event.result begins c.in-Some-len1-up.len_at_least c.next-item.is (rw c.as_slice-in-Some-len1-up.ensures at c.has_event.ensures)

pub returns-in-None : goal.returns-in-None
returns-in-None c =
    (λ h. absurd (false≢true h), λ t. absurd (none_taken c.args.self.now c.args.path.now (rw (c.as_slice.ensures, c.as_slice-2.ensures) at c.in-None.ensures.none) t))
