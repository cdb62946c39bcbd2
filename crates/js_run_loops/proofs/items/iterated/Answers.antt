use Rattle.std.proofs.Common.{◌∙◌, sym}
use Rattle.js_frames.proofs.Steps.{where_true, where_false}
use Rattle.js_run_loops.proofs.Iterating.{object_starts, text_starts, other_throws}
use Rattle.js_run_loops.proofs.items.iterated.Goals as goal

pub returns-then-is_array-clause-goes : goal.returns-then-is_array-clause-goes
returns-then-is_array-clause-goes c view go = where_true _ _ (sym (c.is_array.ensures view) ∙ c.if-is_array.true) (object_starts view c.args.value.now c.in-Object.id c.args.site go _ c.in-Object.is)

pub returns-in_ok-completion-in-Object-clause-goes : goal.returns-in_ok-completion-in-Object-clause-goes
returns-in_ok-completion-in-Object-clause-goes c view go = where_false _ _ (sym (c.is_array.ensures view) ∙ c.if-is_array.false) (object_starts view c.args.value.now c.in-Object.id c.args.site go _ c.in-Object.is) ∙ c.in_ok-completion-in-Object.ensures.gives view

pub returns-in-Text-clause-goes : goal.returns-in-Text-clause-goes
returns-in-Text-clause-goes c view go = rw (c.left.ensures.gives view) (text_starts view c.args.value.now _ c.args.site go _ c.in-Text.is)

pub returns-in_ok-completion-in_default-clause-goes : goal.returns-in_ok-completion-in_default-clause-goes
returns-in_ok-completion-in_default-clause-goes c view go = other_throws view c.args.value.now c.args.site go _ c.in_default.not-Object c.in_default.not-Text ∙ c.in_ok-completion-in_default.ensures.gives view
