use Rattle.std.proofs.Common.{refl, ◌∙◌, ap, sym, arith}
use Rattle.js_meaning.specs.Meaning.{stmt}
use Rattle.js_frames.specs.Idle.{is_idle}
use Rattle.js_frames.proofs.Going.{means_other, idle_other, idle_alone}
use Rattle.js_run_statements.proofs.statements.begun.Goals as goal

pub down-init : goal.down-init
down-init c = record { means = refl; idle = refl }

pub down-preserved : goal.down-preserved
down-preserved c = record {
  means = ap stmt c.get-part.ensures ∙ sym (means_other c.down.part.now c.in-If.arms c.in-If.alternate c.in-Some.other c.in-If.is (omega (arith, c.if-len-gt0.false, c.len.ensures)) c.in-Some.is) ∙ c.down.invariant.means;
  idle = ap is_idle c.get-part.ensures ∙ sym (idle_other c.down.part.now c.in-If.arms c.in-If.alternate c.in-Some.other c.in-If.is (omega (arith, c.if-len-gt0.false, c.len.ensures)) c.in-Some.is) ∙ c.down.invariant.idle;
}

pub returns-in-None-clause-counts : goal.returns-in-None-clause-counts
returns-in-None-clause-counts c i alternate p = idle_alone c.down.part.now c.in-If.arms c.in-If.alternate c.in-If.is (omega (arith, c.if-len-gt0.false, c.len.ensures)) c.in-None.is (c.down.invariant.idle ∙ i)
