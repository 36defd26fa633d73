use Rattle.std.proofs.Common.{rules}
use Rattle.std.proofs.lemmas.List.Sorted.{IsNonDecreasingBy-from_sort_by_key}
use Rattle.staticise.specs.Ordering.{order_of}
use Rattle.staticise.proofs.Ordered.{own_ordered}
use Rattle.staticise.proofs.loosening.Loosening.order.Goals as goal

pub returns-clause-ordered : goal.returns-clause-ordered
returns-clause-ordered c = λ p o own. own_ordered p c.args.methods.now c.sort_unstable_by_key.new.self own c.sort_unstable_by_key.ensures.permutation
    (IsNonDecreasingBy-from_sort_by_key (order_of p) c.sort_unstable_by_key.new.self c.sort_unstable_by_key.ensures.sorted (λ a r q k. search rules))
