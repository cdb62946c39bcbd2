use Rattle.std.proofs.Common.{◌∙◌, arith, refl, ap, length}
use Rattle.re_matcher.specs.Pending.{state, choice_frame, choice_spot}
use Rattle.re_matcher.specs.declared.frames.Choice.{Choice}
use Rattle.re_matcher.proofs.Waiting.{found_first, sound_rest, sound_again, going, settle_kept, settle_goes}
use Rattle.re_matcher.proofs.machine.Machine.settle.Goals as goal

pub choices-preserved-in-Try : goal.choices-preserved-in-Try
choices-preserved-in-Try c = record {
  same = (found_first c.args.flags c.args.text.now c.choices.self.frames c.pop.new.self.frames c.choices.self.choices c.pop.new.self.choices c.in-Some.choice c.in-Try.frame c.in-Try.kept c.in-Try.spot (state c.args.spot) c.in-Some.ensures c.in-Try.is).0 ∙ c.choices.invariant.same;
  less = omega (arith, (found_first c.args.flags c.args.text.now c.choices.self.frames c.pop.new.self.frames c.choices.self.choices c.pop.new.self.choices c.in-Some.choice c.in-Try.frame c.in-Try.kept c.in-Try.spot (state c.args.spot) c.in-Some.ensures c.in-Try.is).1, c.choices.invariant.less);
  sound = sound_rest c.args.flags c.args.text.now _ _ _ _ _ c.in-Some.ensures;
}

pub returns-then-negative-clause-found : goal.returns-then-negative-clause-found
returns-then-negative-clause-found c =
    going c.args.flags c.args.text.now _ _ _ c.choices.invariant.same c.choices.invariant.less
    (settle_kept c.args.flags c.args.text.now c.choices.self.frames c.pop.new.self.frames c.choices.self.choices c.pop.new.self.choices c.in-Some.choice c.in-Mark.negative c.in-Mark.frame c.in-Mark.kept c.in-Mark.held (state c.args.spot) c.in-Some.ensures c.in-Mark.is c.if-negative.true)

pub returns-then-negative-clause-sound : goal.returns-then-negative-clause-sound
returns-then-negative-clause-sound c = sound_rest c.args.flags c.args.text.now _ _ _ _ _ c.in-Some.ensures

pub returns-in-Mark-clause-found : goal.returns-in-Mark-clause-found
returns-in-Mark-clause-found c =
    going c.args.flags c.args.text.now _ _ _ c.choices.invariant.same c.choices.invariant.less
    (settle_goes c.args.flags c.args.text.now c.choices.self.frames c.pop.new.self.frames c.choices.self.choices c.pop.new.self.choices _ c.in-Some.choice c.in-Mark.negative c.in-Mark.frame c.in-Mark.kept _ c.in-Mark.held (record { place = c.in-Mark.held.place; groups = c.args.spot.groups }) (state c.args.spot) c.in-Some.ensures c.in-Mark.is c.if-negative.false refl c.in_ok-push-in-Mark.ensures)

pub returns-in-Mark-clause-sound : goal.returns-in-Mark-clause-sound
returns-in-Mark-clause-sound c =
    sound_again c.args.flags c.args.text.now c.choices.self.frames c.pop.new.self.frames c.choices.self.choices c.pop.new.self.choices _ c.in-Some.choice _ _ (record { place = c.in-Mark.held.place; groups = c.args.spot.groups }) c.in-Some.ensures
    (ap choice_frame c.in-Mark.is) (ap (λ (v : Choice). (choice_spot v).place) c.in-Mark.is) c.len-kept.ensures c.in_ok-push-in-Mark.ensures

pub choices-smaller-in-Try : goal.choices-smaller-in-Try
choices-smaller-in-Try c = omega (arith, ap length c.in-Some.ensures.rest)
