use Rattle.stub_library.specs.Meeting.{MetTo}
use Rattle.stub_library.proofs.open.Above.of_classes.Given as goal

abbrev pub invariant-loop-class : goal.invariant-loop-class
invariant-loop-class l = MetTo l.program l.declared.library.now l.above.opens.items l.above.numbers.items l.class-index
