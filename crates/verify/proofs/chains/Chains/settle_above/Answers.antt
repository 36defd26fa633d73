use Rattle.std.proofs.Common.{refl}
use Rattle.verify.proofs.Begun.{class_done}
use Rattle.verify.proofs.chains.Chains.settle_above.Goals as goal

pub returns-clause-goes : goal.returns-clause-goes
returns-clause-goes c = λ n r small lt w. class_done n r c.args.self.now c.settle.new.self c.args.class _ c.climb.new.path.items small lt c.in_ok-climb.ensures refl c.settle.ensures.goes w
