use Rattle.std.proofs.Common.{ℤ, Bool, true, neg_ℤ, ◌≡◌, Some, sym, subst, ap, ◌∙◌}
use Rattle.std.specs.Ordering.{int_eq}
use Rattle.sat_core.specs.Trails.{is_false}
use Rattle.sat_core.proofs.Replay.{itself, or_left}
use Rattle.sat_core.proofs.Growing.{grows_none, grows_more, pushed}
use Rattle.sat_core.proofs.Started.{head_among, none_falsified, alone_falsified, alone_unit}
use Rattle.sat_core.proofs.starting.hold.Goals as goal

pub returns-in-None-clause-holds : goal.returns-in-None-clause-holds
returns-in-None-clause-holds c = none_falsified (is_false c.args.trail.now) c.args.clause.now (sym c.in-None.ensures)

pub returns-then-is_false-clause-holds : goal.returns-then-is_false-clause-holds
returns-then-is_false-clause-holds c =
    alone_falsified (is_false c.args.trail.now) c.args.clause.now c.in-Some.lit.now c.requires.alone (head_among c.args.clause.now c.in-Some.lit.now (sym c.in-Some.ensures))
    (sym c.is_false.ensures ∙ c.if-is_false.true)

pub returns-then-is_false-2-clause-holds : goal.returns-then-is_false-2-clause-holds
returns-then-is_false-2-clause-holds c = (
  c.in-Some.lit.now,
  head_among c.args.clause.now c.in-Some.lit.now (sym c.in-Some.ensures),
  ap (is_false c.args.trail.now) (sym c.opposite.ensures) ∙ (sym c.is_false-2.ensures ∙ c.if-is_false-2.true),
)

pub returns-clause-grows : goal.returns-clause-grows
returns-clause-grows c known e =
    let a = c.args.trail.now in
    let lit = c.in-Some.lit.now in
    let here = head_among c.args.clause.now lit (sym c.in-Some.ensures) in
    let free = sym c.is_false.ensures ∙ c.if-is_false.false in
    let open_too = ap (is_false a) (sym c.opposite.ensures) ∙ (sym c.is_false-2.ensures ∙ c.if-is_false-2.false) in
    grows_more known a a c.push.new.self (record { lit = lit; reason = Some c.args.number }) (grows_none known a) c.in_ok-push.ensures.ok (free, open_too)
    (c.args.clause.now, e, alone_unit (is_false a) c.args.clause.now lit c.requires.alone here free open_too) (λ q. cc)

pub returns-clause-holds : goal.returns-clause-holds
returns-clause-holds c =
    let a = c.args.trail.now in
    let lit = c.in-Some.lit.now in (
      lit,
      head_among c.args.clause.now lit (sym c.in-Some.ensures),
      subst (λ (q : ℤ → Bool). q (neg_ℤ lit) ≡ true) (sym (pushed a c.push.new.self (record { lit = lit; reason = Some c.args.number }) c.in_ok-push.ensures.ok))
          (or_left (int_eq (neg_ℤ lit) (neg_ℤ lit)) (is_false a (neg_ℤ lit)) (itself (neg_ℤ lit))),
    )
