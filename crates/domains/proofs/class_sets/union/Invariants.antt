use Rattle.std.proofs.Common.{◌≡◌, ◌≤◌, take, length}
use Rattle.domains.specs.ClassSets.{merged}
use Rattle.domains.proofs.class_sets.union.Given as goal

abbrev pub invariant-loop-class : goal.invariant-loop-class
invariant-loop-class l = record { is : l.classes.items ≡ merged l.a (take l.class-index l.b); room : length l.classes.items ≤ 8 }
