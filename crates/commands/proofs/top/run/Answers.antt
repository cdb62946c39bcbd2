use Rattle.commands.proofs.Told.{held_answer, only_0, only_5, only_6, why_5}
use Rattle.commands.proofs.top.run.Goals as goal

pub returns-in-Ok-write_all-clause-bounds_refused_only : goal.returns-in-Ok-write_all-clause-bounds_refused_only
returns-in-Ok-write_all-clause-bounds_refused_only g c = λ script bounds held none sound. only_6 script bounds _ _ (held_answer _ _ _ _ script bounds c.in-Ok.ensures.decided held sound) none

pub returns-in-Ok-write_all-clause-script_refused_only : goal.returns-in-Ok-write_all-clause-script_refused_only
returns-in-Ok-write_all-clause-script_refused_only g c = λ script bounds held none sound. only_5 script bounds _ _ (held_answer _ _ _ _ script bounds c.in-Ok.ensures.decided held sound) none

pub returns-in-Ok-write_all-clause-listed_only : goal.returns-in-Ok-write_all-clause-listed_only
returns-in-Ok-write_all-clause-listed_only g c = λ script bounds held both sound. only_0 script bounds _ _ (held_answer _ _ _ _ script bounds c.in-Ok.ensures.decided held sound) both

pub returns-in-Ok-write_all-clause-script_refused_why : goal.returns-in-Ok-write_all-clause-script_refused_why
returns-in-Ok-write_all-clause-script_refused_why g c =
    λ script bounds refused held bad sound. (c.in-Ok.decided.text.items, why_5 script bounds refused _ _ c.one_refusal.ensures.alone c.one_refusal.ensures.apart (held_answer _ _ _ _ script bounds c.in-Ok.ensures.decided held sound) bad, rw c.deref.ensures.value at c.in-Ok-write_all.ensures.all)
