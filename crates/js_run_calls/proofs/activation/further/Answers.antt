use Rattle.term_table.specs.Fitting.{Fits}
use Rattle.term_table.specs.Views.{at}
use Rattle.js_run_calls.proofs.Arguments.{rest_none, rest_more, rest_all}
use Rattle.js_run_calls.proofs.activation.further.Goals as goal

pub returns-in-empty-clause-seen : goal.returns-in-empty-clause-seen
returns-in-empty-clause-seen c = λ view. rest_none (at view) c.args.values.now c.in-empty.len_below

pub returns-in-len1-up-clause-seen : goal.returns-in-len1-up-clause-seen
returns-in-len1-up-clause-seen c = λ view. rest_more (at view) c.args.values.now c.in-len1-up.len_at_least

pub returns-in-len1-up-clause-fits : goal.returns-in-len1-up-clause-fits
returns-in-len1-up-clause-fits c = λ terms a. rest_all (Fits terms) c.args.values.now c.in-len1-up.len_at_least a
