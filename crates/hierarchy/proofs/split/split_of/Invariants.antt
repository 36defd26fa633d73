use Rattle.std.proofs.Common.{◌≡◌, ◌<◌, ℕ, Some, false}
use Rattle.std.specs.Prelude.{slice_get}
use Rattle.program_model.specs.declared.program.Method.{Method}
use Rattle.hierarchy.specs.Splitting.{splits}
use Rattle.hierarchy.proofs.split.split_of.Given as goal

abbrev pub invariant-loop-method : goal.invariant-loop-method
invariant-loop-method l = (place : ℕ) (m : Method) → place < l.method-index → slice_get l.method-items place ≡ Some m → splits l.program l.keys l.special l.class l.above m ≡ false
