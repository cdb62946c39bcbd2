use Rattle.std.proofs.Common.{◌∙◌}
use Rattle.js_early.proofs.Least.{least_none}
use Rattle.js_early.proofs.Whole.{script_least}
use Rattle.js_early.proofs.script.early_name.Goals as goal

pub returns : goal.returns
returns c = record {
  least = script_least c.args.script.now c.push_body.new.self _ _ _ _ (rw (c.as_slice-body.ensures, c.new-names.ensures) at c.in_ok-push_body.ensures) c.in_globals.ensures c.in_ok-in_scope.ensures
      (rw (c.new-search.ensures, least_none, c.as_slice-body.ensures) at c.in_ok-in_stmts.ensures.least) (c.offset.ensures ∙ c.in_ok-found.ensures);
}
