use Rattle.std.proofs.Common.{◌<◌, ◌^◌, arith}
use Rattle.dalvik_act.proofs.Goes.{on_set}
use Rattle.dalvik_act.proofs.Safe.{on_set as safe_set}
use Rattle.dalvik_act.proofs.going.sets.Goals as goal

pub returns-clause-does : goal.returns-clause-does
returns-clause-does c = λ n k h w.
    let below : c.set.new.self.position < 2 ^ 63 = omega (arith, c.set.ensures.position) in
    on_set n c.args.frame.now c.set.new.self c.next.new.self w (c.next.ensures below) c.args.to c.args.datum c.set.ensures

pub returns-clause-safe : goal.returns-clause-safe
returns-clause-safe c = λ l size d low k. safe_set l size c.args.frame.now c.set.new.self c.next.new.self c.args.to c.args.datum d low k c.set.ensures c.next.ensures
