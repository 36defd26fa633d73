use Rattle.std.proofs.Common.{◌<◌, ◌^◌, arith}
use Rattle.dalvik_act.proofs.Goes.{on_slot}
use Rattle.dalvik_act.proofs.Safe.{on_slot as safe_slot}
use Rattle.dalvik_act.proofs.going.sets_slot.Goals as goal

pub returns-clause-does : goal.returns-clause-does
returns-clause-does c = λ n k h w.
    let below : c.set_slot.new.self.position < 2 ^ 63 = omega (arith, c.set_slot.ensures.position) in
    on_slot n c.args.frame.now c.set_slot.new.self c.next.new.self w (c.next.ensures below) c.args.slot c.args.to c.args.datum c.set_slot.ensures

pub returns-clause-safe : goal.returns-clause-safe
returns-clause-safe c = λ l size d low k. safe_slot l size c.args.frame.now c.set_slot.new.self c.next.new.self c.args.slot c.args.to c.args.datum d low k c.set_slot.ensures c.next.ensures
