use Rattle.std.proofs.Common.{ℕ, List, ◌∙◌, ap, sym, subst, ◌≤◌, length}
use Rattle.re_ast.specs.Execution.{exec}
use Rattle.re_matcher.proofs.Starts.{exec_is}
use Rattle.re_matcher.proofs.search.exec.Goals as goal

pub returns : goal.returns
returns c =
    exec_is c.args.pattern.now c.as_slice-units.result.now c.args.from _ c.in_ok-answer.answer
    (subst (λ (v : List ℕ). c.args.from ≤ length v) (sym c.as_slice-units.ensures) c.requires) c.last_start-last.ensures c.in_ok-answer.ensures
    ∙ ap (λ (v : List ℕ). exec c.args.pattern.now v c.args.from) c.as_slice-units.ensures
