use Rattle.std.proofs.Common.{take}
use Rattle.stub_library.specs.Meeting.{Adds, is_seen, texts_of, above_by}
use Rattle.stub_library.proofs.declared.Declared.add_all_above.Given as goal

abbrev pub invariant-loop-place : goal.invariant-loop-place
invariant-loop-place l = Adds (above_by l.self.library.now (take l.place-index l.places)) (is_seen l.initial.seen) (is_seen l.seen) (texts_of l.initial.next.items) (texts_of l.next.items)
