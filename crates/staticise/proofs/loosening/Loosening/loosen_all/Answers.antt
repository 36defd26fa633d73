use Rattle.std.proofs.Common.{subst, sym}
use Rattle.std.specs.List.Sorted.{IsPermutation}
use Rattle.staticise.specs.Loosened.{method_loosened}
use Rattle.staticise.specs.Ordering.{AreOwn}
use Rattle.staticise.proofs.Ordered.{own_mapped}
use Rattle.staticise.proofs.Targeted.{same_name}
use Rattle.staticise.proofs.loosening.Loosening.loosen_all.Goals as goal

pub returns-clause-permutation : goal.returns-clause-permutation
returns-clause-permutation c = λ p t. subst (λ l. IsPermutation l c.order.new.methods) (c.in_ok-loosen_methods.ensures p t) c.order.ensures.permutation

pub returns-clause-ordered : goal.returns-clause-ordered
returns-clause-ordered c = λ p t o own.
    let given = c.args.self.now.given.now in
    c.order.ensures.ordered p o (subst AreOwn (sym (c.in_ok-loosen_methods.ensures p t)) (own_mapped (method_loosened p given) (same_name p given) c.args.methods.now own))
