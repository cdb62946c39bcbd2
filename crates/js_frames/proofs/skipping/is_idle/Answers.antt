use Rattle.std.proofs.Common.{refl, ◌∙◌, ap, sym, arith}
use Rattle.js_meaning.specs.Meaning.{stmt}
use Rattle.js_frames.specs.Idle.{is_idle}
use Rattle.js_frames.proofs.Going.{means_other, idle_other, is_alone, alone_does, other_counts, arms_count}
use Rattle.js_frames.proofs.skipping.is_idle.Goals as goal

pub down-init : goal.down-init
down-init c = record { means = refl; idle = refl }

pub down-preserved : goal.down-preserved
down-preserved c = record {
  means = ap stmt c.get-part.ensures ∙ sym (means_other c.down.part.now c.in-If.arms c.in-If.alternate c.in-Some.other c.in-If.is (omega (arith, c.if-len-gt0.false, c.len.ensures)) c.in-Some.is) ∙ c.down.invariant.means;
  idle = ap is_idle c.get-part.ensures ∙ sym (idle_other c.down.part.now c.in-If.arms c.in-If.alternate c.in-Some.other c.in-If.is (omega (arith, c.if-len-gt0.false, c.len.ensures)) c.in-Some.is) ∙ c.down.invariant.idle;
}

pub returns-then-len-gt0-clause-idle : goal.returns-then-len-gt0-clause-idle
returns-then-len-gt0-clause-idle c = sym (arms_count c.down.part.now c.in-If.arms c.in-If.alternate c.in-If.is (omega (arith, c.if-len-gt0.true, c.len.ensures))) ∙ c.down.invariant.idle

pub returns-in-None-clause-idle : goal.returns-in-None-clause-idle
returns-in-None-clause-idle c = sym (is_alone c.down.part.now c.in-If.arms c.in-If.alternate c.in-If.is (omega (arith, c.if-len-gt0.false, c.len.ensures)) c.in-None.is) ∙ c.down.invariant.idle

pub returns-in-None-clause-does : goal.returns-in-None-clause-does
returns-in-None-clause-does c e = sym c.down.invariant.means ∙ alone_does c.down.part.now c.in-If.arms c.in-If.alternate c.in-If.is (omega (arith, c.if-len-gt0.false, c.len.ensures)) c.in-None.is

pub returns-in_default-clause-idle : goal.returns-in_default-clause-idle
returns-in_default-clause-idle c = sym (other_counts c.down.part.now c.in_default.not-If) ∙ c.down.invariant.idle
