use Rattle.std.proofs.Common.{◌∙◌, arith, refl, sym, ap, slice_get}
use Rattle.re_matcher.specs.Runs.{Run, somes}
use Rattle.re_matcher.specs.Pending.{choice_frame, choice_spot}
use Rattle.re_matcher.specs.declared.frames.Choice.{Choice}
use Rattle.re_matcher.proofs.Waiting.{ended, going, top_kept, top_goes, told_ended, sound_rest, sound_again}
use Rattle.re_matcher.proofs.machine.Machine.advance.Goals as goal

pub returns-then-not-negative-clause-told : goal.returns-then-not-negative-clause-told
returns-then-not-negative-clause-told c =
    going c.args.flags c.args.text.now _ _ _ refl (omega arith)
    (top_kept c.args.flags c.args.text.now c.args.self.now.frames c.pop.new.self.frames c.args.self.now.choices c.pop.new.self.choices c.in-Some-Mark.field-0 c.in-Some-Mark.negative c.in-Some-Mark.frame c.in-Some-Mark.field-0-2 c.in-Some-Mark.spot c.in-Some-Mark.ensures c.in-Some-Mark.field-0-is c.if-not-negative.true)

pub returns-then-not-negative-clause-sound : goal.returns-then-not-negative-clause-sound
returns-then-not-negative-clause-sound c = sound_rest c.args.flags c.args.text.now _ _ _ _ _ c.in-Some-Mark.ensures

pub settle-requires-clause-sound : goal.settle-requires-clause-sound
settle-requires-clause-sound c = sound_rest c.args.flags c.args.text.now _ _ _ _ _ c.in-Some-Try.ensures

pub step-requires-clause-sound : goal.step-requires-clause-sound
step-requires-clause-sound c = sound_rest c.args.flags c.args.text.now _ _ _ _ _ c.in-Some-Try.ensures

pub returns-in_ok-push-in-Some-Mark-clause-told : goal.returns-in_ok-push-in-Some-Mark-clause-told
returns-in_ok-push-in-Some-Mark-clause-told c =
    going c.args.flags c.args.text.now _ _ _ refl (omega arith)
    (top_goes c.args.flags c.args.text.now c.args.self.now.frames c.pop.new.self.frames c.args.self.now.choices c.pop.new.self.choices _ c.in-Some-Mark.field-0 c.in-Some-Mark.negative c.in-Some-Mark.frame c.in-Some-Mark.field-0-2 _ c.in-Some-Mark.spot c.in-Some-Mark.ensures c.in-Some-Mark.field-0-is c.if-not-negative.false c.in_ok-push-in-Some-Mark.ensures)

pub returns-in_ok-push-in-Some-Mark-clause-sound : goal.returns-in_ok-push-in-Some-Mark-clause-sound
returns-in_ok-push-in-Some-Mark-clause-sound c =
    sound_again c.args.flags c.args.text.now c.args.self.now.frames c.pop.new.self.frames c.args.self.now.choices c.pop.new.self.choices _ c.in-Some-Mark.field-0 _ _ c.in-Some-Mark.spot c.in-Some-Mark.ensures
    (ap choice_frame c.in-Some-Mark.field-0-is) (ap (λ (v : Choice). (choice_spot v).place) c.in-Some-Mark.field-0-is) c.len-kept.ensures c.in_ok-push-in-Some-Mark.ensures

pub returns-in-None-2-clause-told : goal.returns-in-None-2-clause-told
returns-in-None-2-clause-told c =
    told_ended c.args.flags c.args.text.now _ _ _
    (ended c.args.flags c.args.text.now c.args.self.now.frames c.pop.new.self.frames c.args.self.now.choices c.pop.new.self.choices c.in-Some-Try.field-0 c.in-Some-Try.frame c.in-Some-Try.field-0-1 c.in-Some-Try.spot c.in-Some-Try.ensures c.in-Some-Try.field-0-is c.if-frame-eq0.true)
    (rw c.in-None-2.is at c.in_ok-settle-in-Some-Try.ensures.found)

pub returns-in-Some-clause-told : goal.returns-in-Some-clause-told
returns-in-Some-clause-told c =
    sym (ap (λ (v : Run). slice_get (somes v) 0) (ended c.args.flags c.args.text.now c.args.self.now.frames c.pop.new.self.frames c.args.self.now.choices c.pop.new.self.choices c.in-Some-Try.field-0 c.in-Some-Try.frame c.in-Some-Try.field-0-1 c.in-Some-Try.spot c.in-Some-Try.ensures c.in-Some-Try.field-0-is c.if-frame-eq0.true)
    ∙ rw c.in-Some.is at c.in_ok-settle-in-Some-Try.ensures.found)
