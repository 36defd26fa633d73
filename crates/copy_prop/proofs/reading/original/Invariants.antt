use Rattle.std.proofs.Common.{◌≡◌, drop}
use Rattle.copy_prop.specs.Rereading.{substituted}
use Rattle.copy_prop.proofs.reading.original.Given as goal

abbrev pub invariant-loop-copy : goal.invariant-loop-copy
invariant-loop-copy l = substituted (drop l.copy-index l.copies) l.register ≡ substituted l.copies l.register
