use Rattle.std.proofs.Common.{take}
use Rattle.std.specs.List.{flat_map, list_all}
use Rattle.stub_library.specs.Shut.{above_of}
use Rattle.stub_library.specs.Meeting.{Adds, Meets, is_seen, texts_of, local_clear}
use Rattle.stub_library.proofs.declared.Declared.meet_level.Given as goal

abbrev pub invariant-loop-text : goal.invariant-loop-text
invariant-loop-text l = record {
  meets : Meets l.self.spelled.now.program.now (λ n q. list_all (local_clear l.self.library.now n q) (texts_of (take l.text-index l.level))) l.initial.met l.met;
  adds : Adds (flat_map (above_of l.self.library.now) (texts_of (take l.text-index l.level))) (is_seen l.initial.seen) (is_seen l.seen) (texts_of l.initial.next.items) (texts_of l.next.items);
}
