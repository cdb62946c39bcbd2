use Rattle.re_matcher.proofs.Waiting.{becomes_look}
use Rattle.re_matcher.specs.declared.frames.Item.TheVariants.{Enter}
use Rattle.re_matcher.proofs.machine.Machine.go_look.Goals as goal

pub returns : goal.returns
returns c =
    becomes_look c.args.flags c.args.text.now _ _ _ _ _ c.args.negative (Enter c.args.body) c.args.next _ _ c.args.spot c.requires.sound c.requires.next c.requires.place
    c.in_ok-held.ensures c.len-kept.ensures c.in_ok-push.ensures c.in_ok-go_item.ensures.frames c.in_ok-go_item.ensures.choices
