use Rattle.std.proofs.Common.{refl, ap, sym}
use Rattle.js_meaning.specs.Running.{done}
use Rattle.js_state.specs.Seen.{place_of}
use Rattle.js_frames.proofs.Steps.{stays, leads, still}
use Rattle.js_machine.proofs.parts.after.Goals as goal

pub returns-in_ok-work-in-Element-clause-leads : goal.returns-in_ok-work-in-Element-clause-leads
returns-in_ok-work-in-Element-clause-leads c = rw c.in-Element.is c.in_ok-work-in-Element.ensures.leads

pub returns-in_ok-work-in-Member-clause-leads : goal.returns-in_ok-work-in-Member-clause-leads
returns-in_ok-work-in-Member-clause-leads c = rw c.in-Member.is c.in_ok-work-in-Member.ensures.leads

pub returns-in_ok-work-in-Gathering-clause-leads : goal.returns-in_ok-work-in-Gathering-clause-leads
returns-in_ok-work-in-Gathering-clause-leads c = rw c.in-Gathering.is c.in_ok-work-in-Gathering.ensures.leads

pub returns-in_ok-work-in-Operand-clause-leads : goal.returns-in_ok-work-in-Operand-clause-leads
returns-in_ok-work-in-Operand-clause-leads c = rw c.in-Operand.is c.in_ok-work-in-Operand.ensures.leads

pub returns-in_ok-work-in-LinksLeft-clause-leads : goal.returns-in_ok-work-in-LinksLeft-clause-leads
returns-in_ok-work-in-LinksLeft-clause-leads c = rw c.in-LinksLeft.is c.in_ok-work-in-LinksLeft.ensures.leads

pub returns-in_ok-work-in-LinkRight-clause-leads : goal.returns-in_ok-work-in-LinkRight-clause-leads
returns-in_ok-work-in-LinkRight-clause-leads c = rw c.in-LinkRight.is c.in_ok-work-in-LinkRight.ensures.leads

pub returns-in_ok-work-in-LogicalLeft-clause-leads : goal.returns-in_ok-work-in-LogicalLeft-clause-leads
returns-in_ok-work-in-LogicalLeft-clause-leads c = rw c.in-LogicalLeft.is c.in_ok-work-in-LogicalLeft.ensures.leads

pub returns-in_ok-work-in-ConditionalTest-clause-leads : goal.returns-in_ok-work-in-ConditionalTest-clause-leads
returns-in_ok-work-in-ConditionalTest-clause-leads c = rw c.in-ConditionalTest.is c.in_ok-work-in-ConditionalTest.ensures.leads

pub returns-in_ok-work-in-IndexKey-clause-leads : goal.returns-in_ok-work-in-IndexKey-clause-leads
returns-in_ok-work-in-IndexKey-clause-leads c = rw c.in-IndexKey.is c.in_ok-work-in-IndexKey.ensures.leads

pub returns-in_ok-work-in-BuiltinKey-clause-leads : goal.returns-in_ok-work-in-BuiltinKey-clause-leads
returns-in_ok-work-in-BuiltinKey-clause-leads c = rw c.in-BuiltinKey.is c.in_ok-work-in-BuiltinKey.ensures.leads

pub returns-in_ok-work-in-NameValue-clause-leads : goal.returns-in_ok-work-in-NameValue-clause-leads
returns-in_ok-work-in-NameValue-clause-leads c = rw c.in-NameValue.is c.in_ok-work-in-NameValue.ensures.leads

pub returns-in_ok-work-in-PropertyValue-clause-leads : goal.returns-in_ok-work-in-PropertyValue-clause-leads
returns-in_ok-work-in-PropertyValue-clause-leads c = rw c.in-PropertyValue.is c.in_ok-work-in-PropertyValue.ensures.leads

pub returns-in_ok-work-in-CompoundName-clause-leads : goal.returns-in_ok-work-in-CompoundName-clause-leads
returns-in_ok-work-in-CompoundName-clause-leads c = rw c.in-CompoundName.is c.in_ok-work-in-CompoundName.ensures.leads

pub returns-in_ok-work-in-CompoundProperty-clause-leads : goal.returns-in_ok-work-in-CompoundProperty-clause-leads
returns-in_ok-work-in-CompoundProperty-clause-leads c = rw c.in-CompoundProperty.is c.in_ok-work-in-CompoundProperty.ensures.leads

pub returns-in_ok-work-in-Declared-clause-leads : goal.returns-in_ok-work-in-Declared-clause-leads
returns-in_ok-work-in-Declared-clause-leads c = rw c.in-Declared.is c.in_ok-work-in-Declared.ensures.leads

pub returns-in_ok-work-in-ArmTest-clause-leads : goal.returns-in_ok-work-in-ArmTest-clause-leads
returns-in_ok-work-in-ArmTest-clause-leads c = rw c.in-ArmTest.is c.in_ok-work-in-ArmTest.ensures.leads

pub returns-in_ok-work-in-WhileTest-clause-leads : goal.returns-in_ok-work-in-WhileTest-clause-leads
returns-in_ok-work-in-WhileTest-clause-leads c = rw c.in-WhileTest.is c.in_ok-work-in-WhileTest.ensures.leads

pub returns-in_ok-work-in-DoTest-clause-leads : goal.returns-in_ok-work-in-DoTest-clause-leads
returns-in_ok-work-in-DoTest-clause-leads c = rw c.in-DoTest.is c.in_ok-work-in-DoTest.ensures.leads

pub returns-in_ok-work-in-ForValue-clause-leads : goal.returns-in_ok-work-in-ForValue-clause-leads
returns-in_ok-work-in-ForValue-clause-leads c = rw c.in-ForValue.is c.in_ok-work-in-ForValue.ensures.leads

pub returns-in_ok-work-in-ForTest-clause-leads : goal.returns-in_ok-work-in-ForTest-clause-leads
returns-in_ok-work-in-ForTest-clause-leads c = rw c.in-ForTest.is c.in_ok-work-in-ForTest.ensures.leads

pub returns-in_ok-work-in-ForUpdate-clause-leads : goal.returns-in_ok-work-in-ForUpdate-clause-leads
returns-in_ok-work-in-ForUpdate-clause-leads c = rw c.in-ForUpdate.is c.in_ok-work-in-ForUpdate.ensures.leads

pub returns-in_ok-work-in-OfItems-clause-leads : goal.returns-in_ok-work-in-OfItems-clause-leads
returns-in_ok-work-in-OfItems-clause-leads c = rw c.in-OfItems.is c.in_ok-work-in-OfItems.ensures.leads

pub returns-in-ItsValue-clause-leads : goal.returns-in-ItsValue-clause-leads
returns-in-ItsValue-clause-leads c = leads (stays still refl (λ view w. rw c.in-ItsValue.is refl))

pub returns-in-TargetKey-clause-leads : goal.returns-in-TargetKey-clause-leads
returns-in-TargetKey-clause-leads c = rw c.in-TargetKey.is (c.target_key.ensures.gives c.args.frames.now)

pub returns-in-BuiltinTarget-clause-leads : goal.returns-in-BuiltinTarget-clause-leads
returns-in-BuiltinTarget-clause-leads c = leads (stays still refl (λ view w. rw c.in-BuiltinTarget.is (ap (λ e. done (place_of view c.args.state.now) e) (sym (c.left.ensures.gives view)))))

pub returns-in-ExpressDone-clause-leads : goal.returns-in-ExpressDone-clause-leads
returns-in-ExpressDone-clause-leads c = rw c.in-ExpressDone.is c.express_done.ensures.leads

pub returns-in-ReturnDone-clause-leads : goal.returns-in-ReturnDone-clause-leads
returns-in-ReturnDone-clause-leads c = rw c.in-ReturnDone.is c.return_done.ensures.leads

pub returns-in-ThrowDone-clause-leads : goal.returns-in-ThrowDone-clause-leads
returns-in-ThrowDone-clause-leads c = rw c.in-ThrowDone.is c.throw_done.ensures.leads
