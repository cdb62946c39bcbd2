use Rattle.std.proofs.Common.{◌∙◌, sym}
use Rattle.term_table.specs.Fitting.{Fits}
use Rattle.term_table.specs.Views.{at}
use Rattle.term_table.specs.declared.shadow.Plain.TheVariants.{Undefined}
use Rattle.term_table.proofs.Views.{at_plain}
use Rattle.js_run_calls.proofs.Arguments.{first_none, first_more, first_all}
use Rattle.js_run_calls.proofs.activation.argument.Goals as goal

pub returns-in-empty-clause-value : goal.returns-in-empty-clause-value
returns-in-empty-clause-value c = λ view. at_plain view Undefined ∙ sym (first_none (at view) c.args.values.now c.in-empty.len_below)

pub returns-in_ok-copy-in-len1-up-clause-value : goal.returns-in_ok-copy-in-len1-up-clause-value
returns-in_ok-copy-in-len1-up-clause-value c = λ view. rw c.in_ok-copy-in-len1-up.ensures (sym (first_more (at view) c.args.values.now c.first-item.result c.in-len1-up.len_at_least c.first-item.is))

pub returns-in_ok-copy-in-len1-up-clause-fits : goal.returns-in_ok-copy-in-len1-up-clause-fits
returns-in_ok-copy-in-len1-up-clause-fits c = λ terms a. rw c.in_ok-copy-in-len1-up.ensures (first_all (Fits terms) c.args.values.now c.first-item.result c.in-len1-up.len_at_least c.first-item.is a)
