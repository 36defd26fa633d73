use Rattle.stub_library.specs.Meeting.{is_seen, texts_of}
use Rattle.stub_library.proofs.Walks.{Walk}
use Rattle.stub_library.proofs.declared.Declared.meet_all.Given as goal

abbrev pub invariant-loop-done : goal.invariant-loop-done
invariant-loop-done l = Walk l.self.spelled.now.program.now l.self.library.now l.text l.initial.met l.met (is_seen l.seen) (texts_of l.level.items) l.done
