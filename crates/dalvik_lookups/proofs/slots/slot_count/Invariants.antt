use Rattle.std.proofs.Common.{◌≡◌, take}
use Rattle.dalvik_lookups.specs.Slots.{slots_after}
use Rattle.dalvik_lookups.proofs.slots.slot_count.Given as goal

abbrev pub invariant-loop-class : goal.invariant-loop-class
invariant-loop-class l = record { count : l.count ≡ slots_after 0 (take l.class-index l.program.classes) }
