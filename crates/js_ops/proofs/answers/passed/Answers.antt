use Rattle.std.proofs.Common.{◌≡◌, ◌∙◌, sym, ap, subst, List, [], ◌∷◌, ◌++◌}
use Rattle.path_core.specs.declared.path.End.{End}
use Rattle.js_meaning.specs.Running.{passed, gives}
use Rattle.term_table.specs.declared.moves.Move.{Move}
use Rattle.term_table.specs.declared.moves.Move.TheVariants.{Guard}
use Rattle.term_table.specs.declared.shadow.Shadow.{Shadow}
use Rattle.term_table.specs.Views.{at, plain_value}
use Rattle.term_table.specs.Walking.{Walk, EndsRow}
use Rattle.js_ops.proofs.Shown.{shows_passed}
use Rattle.js_ops.proofs.answers.passed.Goals as goal

pub returns-clause-shows : goal.returns-clause-shows
returns-clause-shows c = λ view agrees.
    let moves = c.in_ok-push.ensures ∙ ap (λ (ms : List Move). ms ++ Guard c.flag-term.result c.exit_of-exit.result ∷ []) c.new-moves.ensures ∙ ap (λ (x : End). Guard c.flag-term.result x ∷ []) c.exit_of-exit.ensures in
    rw c.bare-value.ensures (shows_passed view c.args.table.now c.flag-term.result _ c.args.value c.push.new.self agrees c.flag-term.ensures moves)
