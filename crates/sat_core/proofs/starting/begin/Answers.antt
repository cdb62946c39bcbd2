use Rattle.sat_core.proofs.Answered.{when_true, when_false}
use Rattle.std.proofs.Common.{◌++◌, ◌∷◌, []}
use Rattle.sat_core.proofs.Started.{pair_room, begun_pair, begun_alone, begun_false}
use Rattle.sat_core.proofs.starting.begin.Goals as goal

pub add-requires : goal.add-requires
add-requires c = pair_room c.args.watches.now.lists c.args.trail.now.variables c.args.clause.now c.first_pair-pair.result c.requires.wide c.requires.named c.first_pair-pair.ensures.stands

pub returns-in-Some-clause-begun : goal.returns-in-Some-clause-begun
returns-in-Some-clause-begun c known s =
    let o = c.first_pair-pair.result in
    let stands = c.first_pair-pair.ensures.stands in
    let room = pair_room c.args.watches.now.lists c.args.trail.now.variables c.args.clause.now o c.requires.wide c.requires.named stands in
    begun_pair known c.args.watches.now c.add.new.self c.args.trail.now c.args.clause.now o s c.requires.named stands room c.in_ok-number.ensures.pairs c.in_ok-number.ensures.lists c.in-Some.field-0 c.in-Some.is

pub returns-then-branch-clause-begun : goal.returns-then-branch-clause-begun
returns-then-branch-clause-begun c known s =
    let o = c.first_pair-pair.result in
    let stands = c.first_pair-pair.ensures.stands in
    let room = pair_room c.args.watches.now.lists c.args.trail.now.variables c.args.clause.now o c.requires.wide c.requires.named stands in
    let held = c.in_ok-hold-in-None.ensures in
    begun_false known c.args.watches.now c.add.new.self c.args.trail.now c.args.clause.now o s c.requires.named stands room c.in_ok-number.ensures.pairs c.in_ok-number.ensures.lists
    c.hold.new.trail c.in_ok-number.number c.in_ok-number.ensures.number (held.grows (known ++ c.args.clause.now ∷ [])) held.same held.named
    (when_true c.in_ok-hold-in-None.field-0 _ _ c.if-branch.true held.holds)

pub returns-else-branch-clause-begun : goal.returns-else-branch-clause-begun
returns-else-branch-clause-begun c known s =
    let o = c.first_pair-pair.result in
    let stands = c.first_pair-pair.ensures.stands in
    let room = pair_room c.args.watches.now.lists c.args.trail.now.variables c.args.clause.now o c.requires.wide c.requires.named stands in
    let held = c.in_ok-hold-in-None.ensures in
    begun_alone known c.args.watches.now c.add.new.self c.args.trail.now c.args.clause.now o s c.requires.named stands room c.in_ok-number.ensures.pairs c.in_ok-number.ensures.lists
    c.hold.new.trail c.in_ok-number.number c.in_ok-number.ensures.number (held.grows (known ++ c.args.clause.now ∷ [])) held.same held.named c.in-None.is
    (when_false c.in_ok-hold-in-None.field-0 _ _ c.if-branch.false held.holds)
