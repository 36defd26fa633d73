use Rattle.std.proofs.Common.{◌≡◌, ◌++◌, take}
use Rattle.stub_library.specs.Meeting.{rows_at}
use Rattle.stub_library.proofs.declared.Declared.add_methods.Given as goal

abbrev pub invariant-loop-place : goal.invariant-loop-place
invariant-loop-place l = l.out.items ≡ l.initial.out.items ++ rows_at l.self.numbers.items (take l.place-index l.places)
