use Rattle.std.proofs.Common.{◌<◌, ◌^◌, sym, arith, rules, w64}
use Rattle.std.proofs.lemmas.Int.{to_z-of_z}
use Rattle.proof_text.specs.Reading.{literal_at}
use Rattle.js_units.proofs.Reading.{gathers_more, gathers_end}
use Rattle.proof_text.proofs.Listed.{literal_shortens}
use Rattle.proof_text.proofs.literals.literals.Goals as goal

pub loop-number-smaller : goal.loop-number-smaller
loop-number-smaller c =
    let low : c.args.variables < 2 ^ 64 = omega (arith, c.requires) in
    literal_shortens c.args.variables low _ _ _ (sym c.in-Some.ensures.value)

pub loop-number-preserved : goal.loop-number-preserved
loop-number-preserved c =
    let low : c.args.variables < 2 ^ 64 = omega (arith, c.requires) in
    rw (c.in_ok-push.ensures.ok, c.literal_of.ensures, to_z-of_z w64 c.in-Some.number (search rules))
    (gathers_more (literal_at c.args.variables) (literal_shortens c.args.variables low) _ _ _ _ _ c.loop-number.invariant (sym c.in-Some.ensures.value))

pub returns : goal.returns
returns c = sym (gathers_end (literal_at c.args.variables) _ _ _ c.loop-number.invariant (sym c.in_default.ensures.value))
