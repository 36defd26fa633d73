use Rattle.std.proofs.Common.{◌≡◌, ◌<◌, false, length, sym, ◌∙◌, rules}
use Rattle.std.specs.Prelude.{slice_index_or}
use Rattle.std.specs.BinaryHeap.{heap_items}
use Rattle.std.proofs.lemmas.List.{get_or_read}
use Rattle.std.proofs.lemmas.List.Sorted.{IsPermutation-map}
use Rattle.verify.proofs.Queue.{queues_woken}
use Rattle.verify.proofs.arrivals.Arrivals.wake.Goals as goal

pub returns-in_ok-push-clause-queues : goal.returns-in_ok-push-clause-queues
returns-in_ok-push-clause-queues c =
    let ws = c.args.self.now.waiting.items in
    let lt : c.args.position < length ws = search rules in
    let off : slice_index_or ws c.args.position false ≡ false = sym (get_or_read ws c.args.position c.index.result.now lt c.index.ensures false) ∙ c.if-not-index.true in
    queues_woken ws _ _ c.args.position lt off (IsPermutation-map (λ r. r.0) _ (heap_items c.push.new.self) c.in_ok-push.ensures.permutation)
