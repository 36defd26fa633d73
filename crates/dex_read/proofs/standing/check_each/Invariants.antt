use Rattle.std.proofs.Common.{◌≡◌, drop}
use Rattle.dex_read.specs.Standing.{each_stands, stands_by}
use Rattle.dex_read.proofs.standing.check_each.Given as goal

abbrev pub invariant-loop-place : goal.invariant-loop-place
invariant-loop-place l = each_stands (stands_by l.marks) l.place (drop l.place l.classes) ≡ each_stands (stands_by l.marks) 0 l.classes
