use Rattle.std.proofs.Common.{◌≡◌, ◌++◌, take}
use Rattle.std.specs.List.{flat_map}
use Rattle.loose_methods.specs.Mentioned.{mark_methods}
use Rattle.loose_methods.proofs.mentions.add_marks.Given as goal

abbrev pub invariant-loop-mark : goal.invariant-loop-mark
invariant-loop-mark l = l.out.items ≡ l.initial.out.items ++ flat_map mark_methods (take l.mark-index l.marks)
