use Rattle.js_ops.proofs.Shown.{shows_failed}
use Rattle.js_ops.proofs.answers.failed.Goals as goal

pub returns-clause-shows : goal.returns-clause-shows
returns-clause-shows c = λ view agrees.
    rw c.exit_of-exit.ensures (shows_failed view c.args.table.now c.flag-term.result _ c.new-moves.result agrees c.flag-term.ensures c.new-moves.ensures)
