use Rattle.std.proofs.Common.{◌∙◌, ap, drop, length, ◌-◌}
use Rattle.re_matcher.proofs.Waiting.{popped}
use Rattle.re_matcher.proofs.machine.Machine.pop.Goals as goal

pub returns-in-Some : goal.returns-in-Some
returns-in-Some c =
    popped c.args.flags c.args.text.now _ _ _ _ c.in-Some.top c.requires.sound c.in-Some.ensures
    (c.cut.ensures ∙ ap (λ n. drop (length c.args.self.now.frames - n) c.args.self.now.frames) c.kept.ensures)
