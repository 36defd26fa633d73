use Rattle.std.proofs.Common.{◌∙◌}
use Rattle.verify.proofs.Begun.{goes_end, pop_left}
use Rattle.verify.proofs.Paths.{goes_on}
use Rattle.verify.proofs.chains.Chains.settle.Goals as goal

pub loop-preserved : goal.loop-preserved
loop-preserved c = record {
  goes = λ n r small w h. goes_on n r c.args.self.now c.loop.self c.settle_one.new.self c.args.path.now.items c.loop.path.items c.pop.new.self.items c.in-Some.class small c.in-Some.ensures.items (c.loop.invariant.goes n r small w h) c.settle_one.ensures;
  left = pop_left c.loop.path.items c.pop.new.self.items c.in-Some.class c.loop.counter c.len-end.result c.in-Some.ensures.items c.loop-test.true c.loop.invariant.left;
  supers = c.settle_one.ensures.supers ∙ c.loop.invariant.supers;
}

pub returns-clause-goes : goal.returns-clause-goes
returns-clause-goes c = λ n r small w h. goes_end n r c.args.self.now c.loop.self c.args.path.now.items c.loop.path.items c.loop.counter c.len-end.result c.loop.invariant.left c.loop-test.false (c.loop.invariant.goes n r small w h)
