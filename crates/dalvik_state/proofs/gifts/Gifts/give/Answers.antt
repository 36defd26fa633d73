use Rattle.std.proofs.Common.{arith, length, subst, ◌≡◌}
use Rattle.std.specs.Vec.Iter.{into_iter_items}
use Rattle.dalvik_state.proofs.Handing.{IsGiving, giving_goes_on, room_ends, space_ends}
use Rattle.dalvik_state.proofs.gifts.Gifts.give.Goals as goal

pub loop-thing-preserved : goal.loop-thing-preserved
loop-thing-preserved c =
    giving_goes_on c.args.self c.args.world.now c.loop-thing.world c.give_one.new.world c.loop-thing.yielded c.in-Some.thing (into_iter_items c.next.new.self)
    (subst (IsGiving c.args.self c.args.world.now c.loop-thing.world c.loop-thing.yielded) c.in-Some.ensures.steps.0 c.loop-thing.invariant)
    c.give_one.ensures.given c.give_one.ensures.room c.give_one.ensures.space

pub returns-clause-room : goal.returns-clause-room
returns-clause-room c =
    let len = c.in-None.ensures.steps.0 in
    let ok = c.loop-thing.thing-iterator.rest.ok.0 in
    let zero : length (into_iter_items c.loop-thing.thing-iterator) ≡ 0 = omega (arith, len, ok) in
    room_ends c.args.self c.args.world.now c.loop-thing.world c.loop-thing.yielded (into_iter_items c.loop-thing.thing-iterator) c.loop-thing.invariant zero

pub returns-clause-space : goal.returns-clause-space
returns-clause-space c =
    let len = c.in-None.ensures.steps.0 in
    let ok = c.loop-thing.thing-iterator.rest.ok.0 in
    let zero : length (into_iter_items c.loop-thing.thing-iterator) ≡ 0 = omega (arith, len, ok) in
    space_ends c.args.self c.args.world.now c.loop-thing.world c.loop-thing.yielded (into_iter_items c.loop-thing.thing-iterator) c.loop-thing.invariant zero
