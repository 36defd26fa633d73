use Rattle.std.proofs.Common.{◌≡◌, take}
use Rattle.stub_library.specs.Meeting.{declared_among}
use Rattle.stub_library.proofs.declared.numbers_of.Given as goal

abbrev pub invariant-loop-method : goal.invariant-loop-method
invariant-loop-method l = l.numbers.items ≡ declared_among l.spelled.program.now l.spelled.numbers.items (take l.method-index l.methods)
