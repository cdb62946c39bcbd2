use Rattle.std.proofs.Common.{sym, ap}
use Rattle.term_table.proofs.Views.{at_plain}
use Rattle.js_meaning.specs.Names.{read_found, found_input}
use Rattle.js_state.specs.Inside.{contents_of}
use Rattle.js_state.specs.Seen.{place_of}
use Rattle.js_state.proofs.Bindings.{plain_input}
use Rattle.js_state.proofs.state.State.read_outside.Goals as goal

pub returns-in-Some-clause-gives : goal.returns-in-Some-clause-gives
returns-in-Some-clause-gives c view =
    let s = c.in-Some.ensures.is_supplied in
    let e = plain_input view c.in-Some.input.now.value c.in-Some.input.now.number s.number in
    rw (← c.self.view_is, at_plain view c.in_ok-value.value, c.in_ok-value.ensures, ← e)
    (ap (λ o. read_found c.args.site c.args.name.now (found_input o c.args.name.now) (place_of view (contents_of c.self.inside))) (rw c.as_slice.ensures at (sym (c.in-Some.ensures.found view))))

pub returns-in-Some-clause-fits : goal.returns-in-Some-clause-fits
returns-in-Some-clause-fits c = record { value = rw c.in_ok-value.ensures c.in-Some.ensures.is_supplied.value; term = tt }
