use Rattle.std.proofs.Common.{◌∙◌, arith}
use Rattle.js_early.specs.Parts.{member_places}
use Rattle.js_early.specs.Weight.{member_weight}
use Rattle.js_early.proofs.Least.{least_step}
use Rattle.js_early.proofs.Turns.{weight_step}
use Rattle.js_early.proofs.parts.in_members.Goals as goal

pub loop-member-preserved : goal.loop-member-preserved
loop-member-preserved c = (
  least_step member_places c.args.members.now c.loop-member.member-index c.member-item.result _ _ (omega arith) c.member-item.is c.in_ok-in_member.ensures.least ∙ c.loop-member.invariant.0,
  weight_step member_weight c.args.members.now c.loop-member.member-index c.member-item.result _ _ (omega arith) c.member-item.is c.in_ok-in_member.ensures.weight ∙ c.loop-member.invariant.1,
)
