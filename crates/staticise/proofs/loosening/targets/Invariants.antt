use Rattle.std.proofs.Common.{◌≡◌, true}
use Rattle.program_model.specs.ProgramRules.{is_well_formed}
use Rattle.hierarchy.specs.Shapes.{IsResolved}
use Rattle.staticise.specs.Ordering.{TargetsTo}
use Rattle.staticise.proofs.loosening.targets.Given as goal

abbrev pub invariant-loop-method : goal.invariant-loop-method
invariant-loop-method l = is_well_formed l.program ≡ true → IsResolved l.program l.hierarchy → TargetsTo l.program l.given l.method l.targets.items
