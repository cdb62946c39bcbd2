use Rattle.re_matcher.proofs.Waiting.{pushes_two}
use Rattle.re_matcher.proofs.machine.Machine.go_two.Goals as goal

pub returns : goal.returns
returns c =
    pushes_two c.args.flags c.args.text.now _ _ _ _ _ c.args.first c.args.second c.args.next _ c.args.spot c.requires.sound c.requires.next c.requires.place
    c.in_ok-push.ensures c.len-frame.ensures c.in_ok-go_item.ensures.frames c.in_ok-go_item.ensures.choices
