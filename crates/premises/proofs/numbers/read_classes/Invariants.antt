use Rattle.std.proofs.Common.{All, take}
use Rattle.premises.specs.Numbers.{ClassHasWords}
use Rattle.premises.proofs.numbers.read_classes.Given as goal

abbrev pub invariant-loop-class : goal.invariant-loop-class
invariant-loop-class l = All ClassHasWords (take l.class-index l.classes)
