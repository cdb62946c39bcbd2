use Rattle.re_matcher.specs.Pending.{state}
use Rattle.re_ast.specs.Tree.{alt_all, tree_of}
use Rattle.re_ast.specs.Successes.{State}
use Rattle.re_matcher.specs.Runs.{runs, tick}
use Rattle.std.proofs.Common.{take, drop, length, map, ◌++◌, ◌-◌, ◌∙◌}
use Rattle.std.proofs.Common.{ap}
use Rattle.re_matcher.proofs.Waiting.{pushes_as, pushes_none, pushes_both, no_alternatives, some_alternatives}
use Rattle.re_matcher.proofs.machine.Machine.go_alternatives.Goals as goal

pub returns-in-empty : goal.returns-in-empty
returns-in-empty c =
    pushes_as c.args.flags c.args.text.now _ _ _ _ _ _ _ (pushes_none _ _ _ _ c.args.next c.requires.sound) (no_alternatives _ _ _ _ c.in-empty.len_below)

pub returns-in_ok-go_one-in-len1-up-2 : goal.returns-in_ok-go_one-in-len1-up-2
returns-in_ok-go_one-in-len1-up-2 c =
    pushes_as c.args.flags c.args.text.now _ _ _ _ _ _ _
    (pushes_both c.args.flags c.args.text.now _ _ _ _ _ _ c.args.next _ _ c.requires.next c.in_ok-go_one-in-len1-up.ensures c.in_ok-go_one-in-len1-up-2.ensures)
    (ap (λ (v : State). tick (runs c.args.flags c.args.text.now (tree_of c.only-item.result) (state c.args.spot)) ++ tick (runs c.args.flags c.args.text.now (alt_all (map tree_of (take (length c.args.parts.now - 1) (drop 1 c.args.parts.now)))) v)) c.in_ok-held-in-len1-up.ensures
    ∙ some_alternatives c.args.flags c.args.text.now c.args.parts.now c.only-item.result (state c.args.spot) c.only-item.is c.in-len1-up.len_at_least)
