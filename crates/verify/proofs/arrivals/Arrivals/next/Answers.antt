use Rattle.std.proofs.lemmas.List.Sorted.{IsPermutation-map}
use Rattle.std.specs.BinaryHeap.{heap_items}
use Rattle.verify.proofs.arrivals.Arrivals.next.Goals as goal

pub returns-in-Some-get_mut-clause-queue : goal.returns-in-Some-get_mut-clause-queue
returns-in-Some-get_mut-clause-queue c = IsPermutation-map (λ r. r.0) (heap_items c.args.self.now.work) _ c.in-Some.ensures.permutation

pub returns-in_default-clause-queue : goal.returns-in_default-clause-queue
returns-in_default-clause-queue c = IsPermutation-map (λ r. r.0) (heap_items c.args.self.now.work) _ c.in-Some.ensures.permutation
