use Rattle.std.proofs.Common.{◌≡◌}
use Rattle.stub_library.specs.Spelling.{SpelledTo}
use Rattle.stub_library.proofs.spelled.Spelled.add_all.Given as goal

abbrev pub invariant-loop-number : goal.invariant-loop-number
invariant-loop-number l = record {
  same : l.self.program.now ≡ l.initial.self.program.now;
  so_far : SpelledTo l.initial.self.program.now l.hierarchy l.seen l.self l.number;
}
