use Rattle.std.proofs.Common.{◌≡◌, Some}
use Rattle.hierarchy.specs.Shapes.{IsResolved}
use Rattle.quiet_methods.specs.Bodies.{calls_upto}
use Rattle.quiet_methods.proofs.forms.Search.calls.Given as goal

abbrev pub invariant-loop-place : goal.invariant-loop-place
invariant-loop-place l = IsResolved l.self.program.now l.self.hierarchy.now → Some l.calls.items ≡ calls_upto l.self.program.now l.insns l.frames l.place
