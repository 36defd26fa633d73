use Rattle.std.proofs.Common.{Bool, if◌then◌else◌, length, slice_index, ap, ◌∙◌, arith}
use Rattle.body_graph.proofs.Covers.{cover_end}
use Rattle.body_graph.proofs.cover.cover.Goals as goal

pub returns-clause-given : goal.returns-clause-given
returns-clause-given c = λ n lt.
    c.loop-position.invariant.given n (omega (arith, lt, c.loop-position.invariant.long))
    ∙ ap (λ (t : Bool). if t then c.args.place else slice_index c.args.places.now.items n)
    (cover_end c.args.region.now.first c.args.region.now.end (length c.args.places.now.items) c.loop-position.position c.min-end.result n (omega arith) lt c.loop-position.auto.position-end c.loop-position.invariant.still c.loop-position-test.false)
