use Rattle.std.proofs.Common.{rules}
use Rattle.fixpoint.specs.Rising.{NoneWaits}
use Rattle.fixpoint.proofs.Patience.{none_waits}
use Rattle.fixpoint.proofs.Tables.{inductive_at_end}
use Rattle.fixpoint.proofs.along.solve_along.Goals as goal

pub returns-clause-inductive : goal.returns-clause-inductive
returns-clause-inductive g c =
    let laws = g.met.F.Flow.laws c.args.flow.now c.nodes-sound.ensures.sound in
    let clean : NoneWaits c.args.nodes.now c.settle.new.table.waiting.items = search rules in
    inductive_at_end _ _ _ _ _ g.met.F.State.Lattice.reflexive g.met.F.State.Lattice.transitive (λ e lt. (laws.ends e lt).0) _ c.settle.new.table.waiting.items
    (λ n lt. none_waits c.args.nodes.now c.settle.new.table.waiting.items clean n (c.requires.nodes.all n lt)) c.in_ok-settle.ensures.keeps
