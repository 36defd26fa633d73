use Rattle.std.proofs.Common.{◌≡◌, false, take}
use Rattle.call_targets.specs.Beginning.{keeps_constructor_by}
use Rattle.call_targets.proofs.entered.keeps_constructor.Given as goal

abbrev pub invariant-loop-method : goal.invariant-loop-method
invariant-loop-method l = keeps_constructor_by l.at.program.now l.kept (take l.method-index l.methods) ≡ false
