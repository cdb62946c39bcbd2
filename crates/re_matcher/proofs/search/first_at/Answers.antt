use Rattle.std.proofs.Common.{List, ◌∙◌, ap, slice_get}
use Rattle.re_ast.specs.Tree.{tree_of}
use Rattle.re_ast.specs.Successes.{State}
use Rattle.re_matcher.specs.Runs.{somes, runs}
use Rattle.re_matcher.proofs.Runs.{somes_runs}
use Rattle.re_matcher.proofs.Waiting.{begun}
use Rattle.re_matcher.proofs.search.first_at.Goals as goal

pub returns : goal.returns
returns c =
    c.in_ok-found.ensures
    ∙ begun c.args.pattern.now.flags c.args.text.now _ _ _ _ _ c.new-machine.ensures.frames c.new-machine.ensures.choices c.in_ok-enter.ensures
    ∙ ap (λ (v : State). slice_get (somes (runs c.args.pattern.now.flags c.args.text.now (tree_of c.args.pattern.now.node) v)) 0) c.in_ok-spot.ensures
    ∙ ap (λ (v : List State). slice_get v 0) (somes_runs c.args.pattern.now.flags c.args.text.now (tree_of c.args.pattern.now.node) _)
