use Rattle.std.proofs.Common.{◌≡◌, ◌++◌, take}
use Rattle.std.specs.Prelude.{filter}
use Rattle.reach.specs.Closing.{is_method_met}
use Rattle.reach.proofs.closing.add_methods.Given as goal

abbrev pub invariant-loop-number : goal.invariant-loop-number
invariant-loop-number l = l.out.items ≡ l.initial.out.items ++ filter (is_method_met l.program l.live) (take l.number-index l.methods)
