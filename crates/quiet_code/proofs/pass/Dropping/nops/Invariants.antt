use Rattle.std.proofs.Common.{◌≡◌, slice_get}
use Rattle.hierarchy.specs.Shapes.{IsResolved}
use Rattle.facts.specs.Lent.{frame_at}
use Rattle.quiet_code.specs.Idle.{does_nothing_at}
use Rattle.quiet_code.specs.Quiet.{AreDropped}
use Rattle.quiet_code.specs.Quieted.{nops_upto}
use Rattle.quiet_code.proofs.pass.Dropping.nops.Given as goal

abbrev pub invariant-loop-place : goal.invariant-loop-place
invariant-loop-place l = record {
  dropped : AreDropped l.code.body.now l.edits.items;
  nops : IsResolved l.self.search.program.now l.self.search.hierarchy.now
      → l.edits.items ≡ nops_upto (λ n. does_nothing_at l.self.search.program.now l.self.search.quiet.now (frame_at l.self.facts.now.frames.items l.code.method) l.code.live.now l.code.body.now n (slice_get l.code.body.now.insns n)) l.place;
}
