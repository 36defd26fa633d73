use Rattle.std.proofs.Common.{◌≡◌}
use Rattle.hierarchy.specs.Shapes.{IsResolved}
use Rattle.quiet_code.specs.Told.{idles_upto}
use Rattle.quiet_code.proofs.calls.Search.idles.Given as goal

abbrev pub invariant-loop-place : goal.invariant-loop-place
invariant-loop-place l = IsResolved l.self.program.now l.self.hierarchy.now → l.idles.items ≡ idles_upto l.self.program.now l.self.quiet.now l.place
