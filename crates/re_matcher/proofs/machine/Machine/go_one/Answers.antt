use Rattle.re_matcher.proofs.Waiting.{pushes_one}
use Rattle.re_matcher.proofs.machine.Machine.go_one.Goals as goal

pub returns : goal.returns
returns c =
    pushes_one c.args.flags c.args.text.now _ _ _ _ c.args.item c.args.next c.args.spot c.requires.sound c.requires.next c.requires.place
    c.in_ok-go_item.ensures.frames c.in_ok-go_item.ensures.choices
