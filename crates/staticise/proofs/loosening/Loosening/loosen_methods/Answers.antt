use Rattle.std.proofs.Common.{arith}
use Rattle.staticise.specs.Loosened.{method_loosened}
use Rattle.staticise.proofs.Edited.{each_more}
use Rattle.staticise.proofs.loosening.Loosening.loosen_methods.Goals as goal

pub loop-method-preserved : goal.loop-method-preserved
loop-method-preserved c = λ p t. each_more (method_loosened p c.args.self.now.given.now) c.args.methods.now c.loop-method.methods c.loop-method.method-index _ _ (omega arith) (c.loop-method.invariant p t) (c.in_ok-loosen_method.ensures p t)
