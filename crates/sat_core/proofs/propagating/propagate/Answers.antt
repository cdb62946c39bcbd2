use Rattle.std.proofs.Common.{[], take, slice_get, List, sym, ap, ◌∙◌}
use Rattle.cnf_core.specs.Validity.{among}
use Rattle.cnf_core.specs.Derivations.{known_with}
use Rattle.sat_core.specs.declared.trail.Entry.{Entry}
use Rattle.sat_core.specs.Trails.{falsified}
use Rattle.sat_core.proofs.Falls.{grows_both}
use Rattle.sat_core.proofs.Settling.{any_literal, at_end, literal_named, literal_falls, stopped, seen_next, next_low, smaller_left}
use Rattle.sat_core.proofs.Answered.{when_some, when_none}
use Rattle.sat_core.proofs.propagating.propagate.Goals as goal

pub returns-in-None : goal.returns-in-None
returns-in-None c =
    let i = c.loop-entry.invariant in
    at_end (known_with c.args.cnf.now c.args.steps.now) c.loop-entry.watches c.args.trail.now c.loop-entry.trail c.loop-entry.next i.standing i.guarded
    (ap (λ (es : List Entry). slice_get es c.loop-entry.next) (sym c.entries.ensures.value) ∙ sym c.in-None.ensures) i.grows i.same

pub falsify-requires-clause-named : goal.falsify-requires-clause-named
falsify-requires-clause-named c =
    let known = known_with c.args.cnf.now c.args.steps.now in
    let at = ap (λ (es : List Entry). slice_get es c.loop-entry.next) (sym c.entries.ensures.value) ∙ sym c.in-Some.ensures in
    literal_named known c.loop-entry.watches c.loop-entry.trail c.loop-entry.invariant.standing c.loop-entry.next c.in-Some.entry.now at c.opposite-lit.result c.opposite-lit.ensures

pub falsify-requires-clause-falls : goal.falsify-requires-clause-falls
falsify-requires-clause-falls c =
    let known = known_with c.args.cnf.now c.args.steps.now in
    let at = ap (λ (es : List Entry). slice_get es c.loop-entry.next) (sym c.entries.ensures.value) ∙ sym c.in-Some.ensures in (
      falsified (among []) (take c.loop-entry.next c.loop-entry.trail.entries),
      literal_falls known c.loop-entry.watches c.loop-entry.trail c.loop-entry.invariant.standing c.loop-entry.next c.in-Some.entry.now at c.opposite-lit.result c.opposite-lit.ensures c.loop-entry.invariant.guarded,
    )

pub returns-in-Some-2 : goal.returns-in-Some-2
returns-in-Some-2 c =
    let known = known_with c.args.cnf.now c.args.steps.now in
    let i = c.loop-entry.invariant in
    let at = ap (λ (es : List Entry). slice_get es c.loop-entry.next) (sym c.entries.ensures.value) ∙ sym c.in-Some.ensures in
    let w = c.loop-entry.watches in
    let a = c.loop-entry.trail in
    let e = c.in-Some.entry.now in
    let l = c.opposite-lit.result in
    stopped known w a i.standing c.loop-entry.next e at l c.opposite-lit.ensures c.args.trail.now c.falsify.new.trail c.falsify.new.watches c.in-Some-2.number i.grows i.same
    (when_some c.in_ok-number.field-0 c.in-Some-2.number _ _ c.in-Some-2.is
    (c.in_ok-number.ensures (falsified (among []) (take c.loop-entry.next a.entries)) (literal_falls known w a i.standing c.loop-entry.next e at l c.opposite-lit.ensures i.guarded)))

pub loop-entry-smaller : goal.loop-entry-smaller
loop-entry-smaller c =
    let known = known_with c.args.cnf.now c.args.steps.now in
    let i = c.loop-entry.invariant in
    let at = ap (λ (es : List Entry). slice_get es c.loop-entry.next) (sym c.entries.ensures.value) ∙ sym c.in-Some.ensures in
    let w = c.loop-entry.watches in
    let a = c.loop-entry.trail in
    let e = c.in-Some.entry.now in
    let l = c.opposite-lit.result in
    let r = when_none c.in_ok-number.field-0 _ _ c.in-None-2.is
    (c.in_ok-number.ensures (falsified (among []) (take c.loop-entry.next a.entries)) (literal_falls known w a i.standing c.loop-entry.next e at l c.opposite-lit.ensures i.guarded)) in
    smaller_left known w a i.standing c.loop-entry.next e at l c.opposite-lit.ensures c.falsify.new.trail r.same

pub loop-entry-preserved : goal.loop-entry-preserved
loop-entry-preserved c =
    let known = known_with c.args.cnf.now c.args.steps.now in
    let i = c.loop-entry.invariant in
    let at = ap (λ (es : List Entry). slice_get es c.loop-entry.next) (sym c.entries.ensures.value) ∙ sym c.in-Some.ensures in
    let w = c.loop-entry.watches in
    let a = c.loop-entry.trail in
    let e = c.in-Some.entry.now in
    let l = c.opposite-lit.result in
    let r = when_none c.in_ok-number.field-0 _ _ c.in-None-2.is
    (c.in_ok-number.ensures (falsified (among []) (take c.loop-entry.next a.entries)) (literal_falls known w a i.standing c.loop-entry.next e at l c.opposite-lit.ensures i.guarded)) in
    record {
      standing = any_literal known l _ c.falsify.new.watches c.falsify.new.trail r.standing;
      guarded = seen_next known w a i.standing c.loop-entry.next e at l c.opposite-lit.ensures c.falsify.new.watches c.falsify.new.trail r;
      low = next_low known w a i.standing c.loop-entry.next e at c.falsify.new.trail r.grows;
      grows = grows_both known c.args.trail.now a c.falsify.new.trail i.grows r.grows;
      same = r.same ∙ i.same;
    }
