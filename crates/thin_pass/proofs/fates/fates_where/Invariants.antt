use Rattle.std.proofs.Common.{◌≡◌, ◌++◌, ◌-◌, length}
use Rattle.thin_pass.specs.Wishing.{fates_upto, fates_from}
use Rattle.thin_pass.proofs.fates.fates_where.Given as goal

abbrev pub invariant-loop-position : goal.invariant-loop-position
invariant-loop-position l = l.fates.items ++ fates_upto l.insns l.wishes l.start l.position (length l.insns - l.position) ≡ fates_from l.insns l.wishes 0 (length l.insns)
