use Rattle.std.proofs.Common.{◌≡◌, true, take, slice_index}
use Rattle.std.specs.Prelude.{nat_lt}
use Rattle.std.specs.List.{list_all}
use Rattle.hierarchy.proofs.cycle.all_past.Given as goal

abbrev pub invariant-loop-class : goal.invariant-loop-class
invariant-loop-class l = list_all (λ u. nat_lt l.level (slice_index l.levels u)) (take l.class-index l.list) ≡ true
