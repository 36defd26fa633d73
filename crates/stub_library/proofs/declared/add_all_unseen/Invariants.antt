use Rattle.std.proofs.Common.{take}
use Rattle.stub_library.specs.Meeting.{Adds, is_seen, texts_of}
use Rattle.stub_library.proofs.declared.add_all_unseen.Given as goal

abbrev pub invariant-loop-text : goal.invariant-loop-text
invariant-loop-text l = Adds (take l.text-index l.texts) (is_seen l.initial.seen) (is_seen l.seen) (texts_of l.initial.next.items) (texts_of l.next.items)
