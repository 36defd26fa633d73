use Rattle.std.proofs.Common.{◌≡◌, true, refl, rules}
use Rattle.fixpoint.proofs.Queue.{queues_pushed}
use Rattle.fixpoint.proofs.worklist.follow_queued.Goals as goal

pub returns-clause-queues : goal.returns-clause-queues
returns-clause-queues g c =
    let f = c.in_ok-follow.ensures in
    let rose : c.in_ok-follow.field-0 ≡ true = search rules in
    let ends = (g.met.F.Flow.laws c.args.flow.now c.requires.sound).ends c.args.edge c.requires.edge in
    queues_pushed _ _ _ _ _ _ _ _ c.args.edge c.edge-to.result.1 c.edge-to.ensures.to ends.1 (f.marked rose) (f.falls rose refl) c.in_ok-push_back.ensures.items
