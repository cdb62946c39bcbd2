use Rattle.std.proofs.Common.{◌+◌, ◌-◌, ◌*◌, ◌<◌, List, length, sym, subst, ◌∙◌}
use Rattle.std.proofs.lemmas.Option.{slice_get_within}
use Rattle.cnf_core.specs.Derivations.{known_with}
use Rattle.sat_core.specs.declared.trail.Entry.{Entry}
use Rattle.sat_core.specs.States.{Stopped, Rested}
use Rattle.sat_core.specs.Cuts.{NoDecision}
use Rattle.sat_core.specs.Searches.{Searches}
use Rattle.sat_core.proofs.Answered.{when_some, when_none}
use Rattle.sat_core.proofs.Searched.{ends_refuted, ends_spent, step_smaller, ends_full, decided, decision_less}
use Rattle.sat_core.proofs.searching.search.Goals as goal

pub returns-in-None-last_decision : goal.returns-in-None-last_decision
returns-in-None-last_decision c =
    let l = c.loop-conflict in
    let stop : Stopped (known_with c.args.cnf.now l.steps) c.propagate.new.watches l.trail c.propagate.new.trail c.in-Some.conflict =
    subst (λ ss. Stopped (known_with c.args.cnf.now ss) c.propagate.new.watches l.trail c.propagate.new.trail c.in-Some.conflict) c.as_slice.ensures (when_some c.in_ok-conflict.field-0 c.in-Some.conflict _ _ c.in-Some.is c.in_ok-conflict.ensures) in
    let read = c.entries.ensures.value in
    let again = c.entries-in-None-last_decision.ensures.value in
    ends_refuted c.args.cnf.now c.args.budget l.steps l.watches l.trail l.head l.invariant.search c.propagate.new.watches c.propagate.new.trail c.in-Some.conflict c.entries-in-None-last_decision.result.now c.push.new.self _
    stop again (subst (λ es. NoDecision es 0 (length es)) (read ∙ sym again) c.in-None-last_decision.ensures.none) c.in_ok-refute-in-None-last_decision.ensures.clause c.in_ok-refute-in-None-last_decision.ensures.hints c.in_ok-push-in-None-last_decision.ensures.ok

pub learn-requires-clause-within : goal.learn-requires-clause-within
learn-requires-clause-within c =
    let d = c.in-Some-last_decision.ensures.some in
    subst (λ (es : List Entry). c.in-Some-last_decision.start < length es) c.entries.ensures.value (slice_get_within c.entries.result.now c.in-Some-last_decision.start d.0 d.1)

pub returns-then-len-budget : goal.returns-then-len-budget
returns-then-len-budget c =
    let l = c.loop-conflict in
    ends_spent c.args.cnf.now c.args.budget l.steps l.watches l.trail l.head l.invariant.search c.learn.new.steps c.learn.new.watches c.learn.new.trail c.in_ok-head-in-Some-last_decision.head c.in_ok-head-in-Some-last_decision.ensures.learns
    (sym c.len.ensures ∙ c.if-len-budget.true)

pub loop-conflict-smaller-else-len-budget : goal.loop-conflict-smaller-else-len-budget
loop-conflict-smaller-else-len-budget c =
    let l = c.loop-conflict in
    step_smaller c.args.cnf.now c.args.budget l.steps l.watches l.trail l.head l.invariant.search c.learn.new.steps c.learn.new.watches c.learn.new.trail c.in_ok-head-in-Some-last_decision.head c.in_ok-head-in-Some-last_decision.ensures.learns
    (λ e. c.if-len-budget.false (c.len.ensures ∙ e))

pub loop-conflict-smaller : goal.loop-conflict-smaller
loop-conflict-smaller c =
    let l = c.loop-conflict in
    let rest : Rested (known_with c.args.cnf.now l.steps) c.propagate.new.watches l.trail c.propagate.new.trail =
    subst (λ ss. Rested (known_with c.args.cnf.now ss) c.propagate.new.watches l.trail c.propagate.new.trail) c.as_slice.ensures (when_none c.in_ok-conflict.field-0 _ _ c.in-None.is c.in_ok-conflict.ensures) in
    decision_less c.args.cnf.now c.args.budget l.steps l.watches l.trail l.head l.invariant.search c.propagate.new.watches c.propagate.new.trail rest c.decide.new.self c.in-Some-pick.lit c.in-Some-pick.ensures.free c.in-Some-pick.ensures.named
    c.in_ok-decide-in-Some-pick.ensures.ok c.in_ok-decide-in-Some-pick.ensures.same ((c.args.budget - length l.steps) * (c.args.cnf.now.variables + 1))

pub loop-conflict-preserved : goal.loop-conflict-preserved
loop-conflict-preserved c =
    let l = c.loop-conflict in
    let rest : Rested (known_with c.args.cnf.now l.steps) c.propagate.new.watches l.trail c.propagate.new.trail =
    subst (λ ss. Rested (known_with c.args.cnf.now ss) c.propagate.new.watches l.trail c.propagate.new.trail) c.as_slice.ensures (when_none c.in_ok-conflict.field-0 _ _ c.in-None.is c.in_ok-conflict.ensures) in
    record {
      search = subst (Searches c.args.cnf.now c.args.budget l.steps c.propagate.new.watches c.decide.new.self) (sym c.len-head.ensures)
          (decided c.args.cnf.now c.args.budget l.steps l.watches l.trail l.head l.invariant.search c.propagate.new.watches c.propagate.new.trail rest c.decide.new.self c.in-Some-pick.lit c.in-Some-pick.ensures.free c.in-Some-pick.ensures.named
          c.in_ok-decide-in-Some-pick.ensures.ok c.in_ok-decide-in-Some-pick.ensures.same);
      long = l.invariant.long;
    }

pub returns-in-None-pick : goal.returns-in-None-pick
returns-in-None-pick c =
    let l = c.loop-conflict in
    let rest : Rested (known_with c.args.cnf.now l.steps) c.propagate.new.watches l.trail c.propagate.new.trail =
    subst (λ ss. Rested (known_with c.args.cnf.now ss) c.propagate.new.watches l.trail c.propagate.new.trail) c.as_slice.ensures (when_none c.in_ok-conflict.field-0 _ _ c.in-None.is c.in_ok-conflict.ensures) in
    ends_full c.args.cnf.now c.args.budget l.steps l.watches l.trail l.head l.invariant.search c.propagate.new.watches c.propagate.new.trail rest c.in-None-pick.ensures.none
