use Rattle.std.proofs.Common.{sym, ap, ◌∙◌, Ok}
use Rattle.report_text.specs.declared.reading.Entry.{Entry}
use Rattle.report_text.specs.declared.reading.Entry.TheVariants as entries
use Rattle.report_text.proofs.ReadEntries.{entry_shortens, gathers_line, gathers_last, gathers_wrong}
use Rattle.report_text.proofs.reading.lines.Goals as goal

pub returns-in-Err : goal.returns-in-Err
returns-in-Err c = sym (gathers_wrong _ _ _ _ _ c.loop-found.invariant (sym (rw c.in-Err.is at c.in_ok-read.ensures)))

pub loop-found-smaller : goal.loop-found-smaller
loop-found-smaller c =
    entry_shortens c.loop-found.stage c.loop-found.left.now (entries.Told c.in-Told.line) c.in-Ok.read.1.now
    (sym (rw c.in-Ok.is at c.in_ok-read.ensures) ∙ ap (λ (e : Entry). Ok (e, c.in-Ok.read.1.now)) c.in-Told.is)

pub loop-found-preserved : goal.loop-found-preserved
loop-found-preserved c =
    rw (c.in_ok-push-in-Told.ensures.ok, c.stage_behind-stage.ensures)
    (gathers_line _ c.loop-found.found c.loop-found.stage c.loop-found.left.now c.in-Told.line c.in-Ok.read.1.now c.loop-found.invariant
    (sym (rw c.in-Ok.is at c.in_ok-read.ensures) ∙ ap (λ (e : Entry). Ok (e, c.in-Ok.read.1.now)) c.in-Told.is))

pub returns-in-Last : goal.returns-in-Last
returns-in-Last c =
    sym
    (gathers_last _ c.loop-found.found c.loop-found.stage c.loop-found.left.now c.in-Last.complete c.in-Ok.read.1.now c.loop-found.invariant
    (sym (rw c.in-Ok.is at c.in_ok-read.ensures) ∙ ap (λ (e : Entry). Ok (e, c.in-Ok.read.1.now)) c.in-Last.is))
