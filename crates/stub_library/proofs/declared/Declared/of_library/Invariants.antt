use Rattle.std.proofs.Common.{◌≡◌}
use Rattle.stub_library.specs.Meeting.{DeclaredTo}
use Rattle.stub_library.proofs.declared.Declared.of_library.Given as goal

abbrev pub invariant-loop-class : goal.invariant-loop-class
invariant-loop-class l = record {
  same : l.declared.spelled.now ≡ l.spelled;
  so_far : DeclaredTo l.spelled.program.now l.library l.declared l.class-index;
}
