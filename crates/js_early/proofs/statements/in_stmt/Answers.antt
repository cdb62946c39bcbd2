use Rattle.js_early.proofs.Least.{least_both}
use Rattle.js_early.proofs.Opens.{stmt_For, stmt_Try}
use Rattle.js_early.proofs.Weighs.{stmt_below_Try, weight_both}
use Rattle.js_early.proofs.statements.in_stmt.Goals as goal

pub returns-in_ok-in_optional-in-For-2-clause-least : goal.returns-in_ok-in_optional-in-For-2-clause-least
returns-in_ok-in_optional-in-For-2-clause-least c =
    rw (c.in-For.is, stmt_For, least_both, least_both, least_both, ← c.in_ok-in_head-in-For.ensures.least, ← c.in_ok-in_optional-in-For.ensures.least, ← c.in_ok-in_optional-in-For-2.ensures.least, ← c.get-in-For.ensures)
    c.statement-in-For.ensures.least

pub returns-in_ok-in_catch-in-Try-clause-least : goal.returns-in_ok-in_catch-in-Try-clause-least
returns-in_ok-in_catch-in-Try-clause-least c =
    rw (c.in-Try.is, stmt_Try, least_both, least_both, ← c.as_slice-in-Try.ensures, ← c.in_ok-in_body-in-Try.ensures.least, ← c.in_ok-in_catch-in-Try.ensures.least) c.in_last.ensures.least

pub returns-in_ok-in_catch-in-Try-clause-weight : goal.returns-in_ok-in_catch-in-Try-clause-weight
returns-in_ok-in_catch-in-Try-clause-weight c =
    rw (c.in-Try.is, stmt_below_Try, weight_both, weight_both, ← c.as_slice-in-Try.ensures, ← c.in_ok-in_body-in-Try.ensures.weight, ← c.in_ok-in_catch-in-Try.ensures.weight) c.in_last.ensures.weight
