use Rattle.std.proofs.Common.{◌∙◌, arith, sym}
use Rattle.js_machine.proofs.Idle.{abrupt_passes, idle_passes, idle_gives, not_chain, stop_free, stop_poor, result_costs, result_brings}
use Rattle.js_machine.proofs.handing.hand_on.Goals as goal

pub returns-then-not-is_result-clause-gives : goal.returns-then-not-is_result-clause-gives
returns-then-not-is_result-clause-gives c view w = abrupt_passes view w c.args.frame c.args.completion _ c.requires.idle (sym c.is_result.ensures ∙ c.if-not-is_result.true)

pub returns-in-Err-clause-cost : goal.returns-in-Err-clause-cost
returns-in-Err-clause-cost c =
    let free = stop_free c.in-Err.other (c.in-Err.ensures.stops (sym c.is_result.ensures ∙ c.if-not-is_result.false)) in omega (arith, free)

pub returns-in-Ok-value : goal.returns-in-Ok-value
returns-in-Ok-value c =
    let costs = result_costs c.args.completion c.in-Ok-value.ensures.found in
    let brings = result_brings c.args.completion c.in-Ok-value.ensures.found in
    record {
      gives = λ view w. idle_gives view w c.args.frame c.args.completion c.in-Ok-value.value _ c.requires.idle (not_chain c.args.frame c.in_default.not-Chain) c.in-Ok-value.ensures.found (λ go. c.in-Ok-value.ensures.goes view go);
      cost = omega (arith, costs);
      credit = omega (arith, brings);
      fits = c.in-Ok-value.ensures.fits;
    }

pub returns-in-Err-value : goal.returns-in-Err-value
returns-in-Err-value c =
    let stop = c.in-Err-value.ensures.stops (sym c.is_result.ensures ∙ c.if-not-is_result.false) in
    let free = stop_free c.in-Err-value.other stop in
    let poor = stop_poor c.in-Err-value.other stop in
    record {
      gives = λ view w. idle_passes view w c.args.frame c.args.completion c.in-Err-value.other _ c.requires.idle (not_chain c.args.frame c.in_default.not-Chain) (λ go. c.in-Err-value.ensures.goes view go);
      cost = omega (arith, free);
      credit = omega (arith, poor);
      fits = c.in-Err-value.ensures.fits;
    }
