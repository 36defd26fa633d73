use Rattle.std.proofs.Common.{◌≡◌, ◌++◌, take}
use Rattle.std.specs.Prelude.{filter}
use Rattle.reach.specs.Closing.{classes_of, is_class_met}
use Rattle.reach.proofs.closing.add_classes.Given as goal

abbrev pub invariant-loop-one : goal.invariant-loop-one
invariant-loop-one l = l.out.items ≡ l.initial.out.items ++ classes_of (filter (is_class_met l.live) (take l.one-index l.classes))
