use Rattle.std.proofs.Common.{◌≡◌}
use Rattle.stub_library.specs.Narrowed.{numbers_of}
use Rattle.stub_library.proofs.narrowing.numbers.Given as goal

abbrev pub invariant-loop-number : goal.invariant-loop-number
invariant-loop-number l = l.out.items ≡ numbers_of l.marks l.number
