use Rattle.std.proofs.Common.{◌≡◌, drop}
use Rattle.dex_write.specs.Data.{first_count}
use Rattle.dex_write.proofs.classes.first_count.Given as goal

abbrev pub invariant-loop-entry : goal.invariant-loop-entry
invariant-loop-entry l = first_count l.class l.entry l.count (drop l.entry l.statics) ≡ first_count l.class 0 0 l.statics
