use Rattle.std.proofs.Common.{length}
use Rattle.body_graph.proofs.Covers.{CoversFrom}
use Rattle.body_graph.proofs.cover.covers_of.Given as goal

abbrev pub invariant-loop-place : goal.invariant-loop-place
invariant-loop-place l = CoversFrom l.body.regions (length l.body.insns) l.place l.places.items
