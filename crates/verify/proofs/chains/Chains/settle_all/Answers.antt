use Rattle.std.proofs.Common.{◌≤◌, ◌∙◌, rules}
use Rattle.verify.specs.Flow.{greatest}
use Rattle.verify.proofs.Begun.{none_done, all_done}
use Rattle.verify.proofs.chains.Chains.settle_all.Goals as goal

pub loop-class-init : goal.loop-class-init
loop-class-init c = record { goes = λ r w. none_done c.args.classes r c.args.self.now w; empty = search rules; supers = search rules }

pub loop-class-preserved : goal.loop-class-preserved
loop-class-preserved c = record {
  goes = λ r w. c.in_ok-settle_above.ensures.goes c.args.classes r (let small : c.args.classes ≤ greatest = search rules in small) c.loop-class-test.true (c.loop-class.invariant.goes r w);
  empty = c.in_ok-settle_above.ensures.empty;
  supers = c.in_ok-settle_above.ensures.supers ∙ c.loop-class.invariant.supers;
}

pub returns-clause-goes : goal.returns-clause-goes
returns-clause-goes c = λ r w. all_done c.args.classes r c.loop-class.self c.loop-class.class c.loop-class-test.false (c.loop-class.invariant.goes r w)
