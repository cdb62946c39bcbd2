use Rattle.std.proofs.Common.{sym}
use Rattle.re_matcher.specs.Pending.{state}
use Rattle.re_matcher.proofs.Waiting.{pushes_as, pushes_both}
use Rattle.re_matcher.proofs.Repeating.{turn_spent, turn_due, turn_lazy, turn_greedy}
use Rattle.re_matcher.proofs.machine.Machine.go_turns.Goals as goal

pub returns-then-is_spent : goal.returns-then-is_spent
returns-then-is_spent c =
    pushes_as c.args.flags c.args.text.now _ _ _ _ _ _ _ c.in_ok-go_on.ensures
    (turn_spent c.args.flags c.args.text.now c.args.turn (state c.args.spot) c.requires.place (sym c.if-is_back_at.ensures) (sym c.if-is_spent.ensures))

pub returns-then-turn-gt0 : goal.returns-then-turn-gt0
returns-then-turn-gt0 c =
    pushes_as c.args.flags c.args.text.now _ _ _ _ _ _ _ c.in_ok-go_two.ensures
    (turn_due c.args.flags c.args.text.now c.args.turn _ (state c.args.spot) _ c.requires.place (sym c.if-is_back_at.ensures) (sym c.if-is_spent.ensures)
    c.turn_after.ensures c.in_ok-inner.ensures c.if-turn-gt0.true)

pub returns-then-turn : goal.returns-then-turn
returns-then-turn c =
    pushes_as c.args.flags c.args.text.now _ _ _ _ _ _ _
    (pushes_both c.args.flags c.args.text.now _ _ _ _ _ _ c.args.next _ _ c.requires.next c.in_ok-go_two-2.ensures c.in_ok-go_on-2.ensures)
    (turn_lazy c.args.flags c.args.text.now c.args.turn _ (state c.args.spot) _ c.requires.place (sym c.if-is_back_at.ensures) (sym c.if-is_spent.ensures)
    c.turn_after.ensures c.in_ok-inner.ensures c.if-turn-gt0.false c.if-turn.true)

pub returns : goal.returns
returns c =
    pushes_as c.args.flags c.args.text.now _ _ _ _ _ _ _
    (pushes_both c.args.flags c.args.text.now _ _ _ _ _ _ c.args.next _ _ c.requires.next c.in_ok-go_on-3.ensures c.in_ok-go_two-3.ensures)
    (turn_greedy c.args.flags c.args.text.now c.args.turn _ (state c.args.spot) _ c.requires.place (sym c.if-is_back_at.ensures) (sym c.if-is_spent.ensures)
    c.turn_after.ensures c.in_ok-inner.ensures c.if-turn-gt0.false c.if-turn.false)
