use Rattle.std.proofs.Common.{◌<◌, ◌^◌, arith}
use Rattle.dalvik_act.proofs.Goes.{on_item}
use Rattle.dalvik_act.proofs.Safe.{on_item as safe_item}
use Rattle.dalvik_act.proofs.going.sets_item.Goals as goal

pub returns-clause-does : goal.returns-clause-does
returns-clause-does c = λ n k h w.
    let below : c.set_item.new.self.position < 2 ^ 63 = omega (arith, c.set_item.ensures.position) in
    on_item n c.args.frame.now c.set_item.new.self c.next.new.self w (c.next.ensures below) c.args.item c.args.to c.args.datum c.set_item.ensures

pub returns-clause-safe : goal.returns-clause-safe
returns-clause-safe c = λ l size d low k. safe_item l size c.args.frame.now c.set_item.new.self c.next.new.self c.args.item c.args.to c.args.datum d low k c.set_item.ensures c.next.ensures
