use Rattle.std.proofs.Common.{All, take}
use Rattle.premises.specs.Numbers.{MethodHasWords}
use Rattle.premises.proofs.numbers.read_methods.Given as goal

abbrev pub invariant-loop-method : goal.invariant-loop-method
invariant-loop-method l = All MethodHasWords (take l.method-index l.methods)
