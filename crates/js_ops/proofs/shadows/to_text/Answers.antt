use Rattle.std.proofs.Common.{◌∙◌, sym, ap}
use Rattle.js_meaning.specs.Values.{Value}
use Rattle.term_table.specs.Views.{at}
use Rattle.js_meaning.specs.Operators.{text_row}
use Rattle.js_ops.proofs.Shown.{at_fit, meets_row}
use Rattle.js_ops.proofs.shadows.to_text.Goals as goal

pub returns-clause-meets : goal.returns-clause-meets
returns-clause-meets c =
    meets_row c.args.table.now c.args.site c.in_ok-row.row (λ view. text_row c.args.site (at view c.args.a.now)) c.in_ok-outcome.outcome c.in_ok-outcome.ensures.shows
    (λ view. c.in_ok-row.ensures.row c.args.site ∙ ap (λ (x : Value). text_row c.args.site x) (sym (at_fit view c.args.table.now c.args.a.now c.requires)))
