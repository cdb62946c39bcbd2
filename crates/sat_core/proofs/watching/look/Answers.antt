use Rattle.std.proofs.Common.{sym, ap, ◌∙◌}
use Rattle.sat_core.specs.Trails.{is_false}
use Rattle.sat_core.proofs.Looks.{replaced, no_other, forced}
use Rattle.sat_core.proofs.watching.look.Goals as goal

pub returns-in-Some-replacement : goal.returns-in-Some-replacement
returns-in-Some-replacement c =
    let r = replaced (is_false c.args.trail.now) c.args.clause.now c.in-Some.other c.in-Some-replacement.to (sym c.in-Some-replacement.ensures) in
    (c.in-Some.ensures.some, r.0, r.1, r.2)

pub returns-then-is_false-2 : goal.returns-then-is_false-2
returns-then-is_false-2 c =
    no_other (is_false c.args.trail.now) c.args.clause.now c.in-Some.other (sym c.in-None-replacement.ensures) (sym c.is_false-in-None-replacement.ensures ∙ c.if-is_false-2.true)

pub returns-else-is_false-2 : goal.returns-else-is_false-2
returns-else-is_false-2 c = (
  c.in-Some.ensures.some,
  forced (is_false c.args.trail.now) c.args.clause.now c.args.pair c.in-Some.other c.args.lit c.requires c.in-Some.ensures.some (sym c.in-None-replacement.ensures)
      (sym c.is_false-in-None-replacement.ensures ∙ c.if-is_false-2.false)
      (ap (is_false c.args.trail.now) (sym c.opposite.ensures) ∙ (sym c.is_false.ensures ∙ c.if-is_false.false)),
)
