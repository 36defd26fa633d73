use Rattle.dalvik_act.proofs.Safe.{held_fine}
use Rattle.dalvik_act.proofs.plain.act_ends.Goals as goal

pub returns-in-Return-clause-fine : goal.returns-in-Return-clause-fine
returns-in-Return-clause-fine c = λ l size k. held_fine l size c.args.frame.now c.in-Return.from c.get.result k c.get.ensures

pub returns-in-Throw-clause-fine : goal.returns-in-Throw-clause-fine
returns-in-Throw-clause-fine c = λ l size k. c.unless_null.ensures.fine l size (λ e. record { fine = held_fine l size c.args.frame.now c.in-Throw.on c.get-datum.result k c.get-datum.ensures; there = e })
