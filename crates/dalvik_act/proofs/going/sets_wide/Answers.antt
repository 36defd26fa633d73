use Rattle.std.proofs.Common.{◌<◌, ◌^◌, arith}
use Rattle.dalvik_act.proofs.Goes.{on_wide}
use Rattle.dalvik_act.proofs.Safe.{on_wide as safe_wide}
use Rattle.dalvik_act.proofs.going.sets_wide.Goals as goal

pub returns-clause-does : goal.returns-clause-does
returns-clause-does c = λ n k h w.
    let below : c.set_wide.new.self.position < 2 ^ 63 = omega (arith, c.set_wide.ensures.position) in
    on_wide n c.args.frame.now c.set_wide.new.self c.next.new.self w (c.next.ensures below) c.args.to c.args.wide c.set_wide.ensures

pub returns-clause-safe : goal.returns-clause-safe
returns-clause-safe c = λ l size low k. safe_wide l size c.args.frame.now c.set_wide.new.self c.next.new.self c.args.to c.args.wide low k c.set_wide.ensures c.next.ensures
