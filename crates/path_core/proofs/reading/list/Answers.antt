use Rattle.std.proofs.Common.{sym, ◌∙◌, arith}
use Rattle.serde_json.specs.View.{view}
use Rattle.path_core.proofs.File.{list_read, list_long, list_other, list_none, field_fails}
use Rattle.path_core.proofs.reading.list.Goals as goal

pub returns-in-None-clause-form : goal.returns-in-None-clause-form
returns-in-None-clause-form c = rw (list_none (view c.args.file.now) (sym c.in-None.ensures)) (field_fails _ _ _ c.refused.ensures)

pub returns-then-list-gt16-clause-form : goal.returns-then-list-gt16-clause-form
returns-then-list-gt16-clause-form c = rw (list_long (view c.args.file.now) c.in-Some.list.now (sym c.in-Some.ensures) (omega arith)) (field_fails _ _ _ c.refused-then-list-gt16.ensures)

pub returns-then-not-are_objects-clause-form : goal.returns-then-not-are_objects-clause-form
returns-then-not-are_objects-clause-form c =
    rw (list_other (view c.args.file.now) c.in-Some.list.now (sym c.in-Some.ensures) (omega arith) (sym c.are_objects.ensures ∙ c.if-not-are_objects.true)) (field_fails _ _ _ c.refused-then-not-are_objects.ensures)

pub returns-clause-form : goal.returns-clause-form
returns-clause-form c = list_read (view c.args.file.now) c.in-Some.list.now (sym c.in-Some.ensures) (omega arith) (sym c.are_objects.ensures ∙ c.if-not-are_objects.false)
