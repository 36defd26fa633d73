use Rattle.std.proofs.Common.{length}
use Rattle.dalvik_steps.proofs.Handing.{given_after, given_same, room_exact, space_exact}
use Rattle.dalvik_steps.proofs.stack.puts.Goals as goal

pub returns-clause-ok : goal.returns-clause-ok
returns-clause-ok c = λ l i.
    let g = c.args.gifts in
    let old = c.args.world.now in
    let mid = c.reserve.new.world in
    let same = c.reserve.ensures.same in
    let count = length g.things.items in
    given_after l g old mid c.give.new.world same (c.give.ensures.given l (given_same l g old mid same i) (room_exact mid count c.in_ok-reserve.ensures.room) (space_exact mid count c.in_ok-reserve.ensures.space))
