use Rattle.std.proofs.Common.{sym, ap, arith, ◌≡◌, ◌+◌, ◌-◌, ◌∙◌}
use Rattle.re_matcher.specs.Pending.{state, ends_of, waiting}
use Rattle.re_matcher.proofs.Waiting.{ends_at, tick_out}
use Rattle.re_matcher.specs.Runs.{tick}
use Rattle.re_matcher.proofs.machine.Machine.step.Goals as goal

pub go-requires-clause-next : goal.go-requires-clause-next
go-requires-clause-next c =
    (ends_at c.args.flags c.args.text.now c.args.self.now.frames (c.args.frame - 1) c.at-next.result (state c.args.spot) c.requires.sound.linked c.at-next.ensures).0

pub returns-clause-waiting : goal.returns-clause-waiting
returns-clause-waiting c =
    let e : (c.args.frame - 1) + 1 ≡ c.args.frame = omega arith in
    sym (tick_out c.args.flags c.args.text.now c.args.self.now.frames c.args.self.now.choices _ ∙ ap tick (sym c.in_ok-go.ensures.same))
    ∙ ap (waiting c.args.flags c.args.text.now c.args.self.now.frames c.args.self.now.choices)
    (sym (ends_at c.args.flags c.args.text.now c.args.self.now.frames (c.args.frame - 1) c.at-next.result (state c.args.spot) c.requires.sound.linked c.at-next.ensures).1
    ∙ ap (λ n. ends_of c.args.flags c.args.text.now c.args.self.now.frames n (state c.args.spot)) e)
