use Rattle.std.proofs.Common.{◌∙◌, arith}
use Rattle.js_early.specs.Parts.{suffix_places}
use Rattle.js_early.specs.Weight.{suffix_weight}
use Rattle.js_early.proofs.Least.{least_step}
use Rattle.js_early.proofs.Turns.{weight_step}
use Rattle.js_early.proofs.parts.in_suffixes.Goals as goal

pub loop-suffix-preserved : goal.loop-suffix-preserved
loop-suffix-preserved c = (
  least_step suffix_places c.args.suffixes.now c.loop-suffix.suffix-index c.suffix-item.result _ _ (omega arith) c.suffix-item.is c.in_ok-in_suffix.ensures.least ∙ c.loop-suffix.invariant.0,
  weight_step suffix_weight c.args.suffixes.now c.loop-suffix.suffix-index c.suffix-item.result _ _ (omega arith) c.suffix-item.is c.in_ok-in_suffix.ensures.weight ∙ c.loop-suffix.invariant.1,
)
