use Rattle.std.proofs.Common.{◌≡◌, take}
use Rattle.dalvik_lookups.specs.Slots.{slots_from, slots_after}
use Rattle.dalvik_lookups.proofs.slots.first_slots.Given as goal

abbrev pub invariant-loop-class : goal.invariant-loop-class
invariant-loop-class l = record {
  slots : l.slots.items ≡ slots_from 0 (take l.class-index l.program.classes);
  next : l.next ≡ slots_after 0 (take l.class-index l.program.classes);
}
