use Rattle.std.proofs.Common.{◌≡◌, true, false, take}
use Rattle.std.specs.Prelude.{slice_index_or}
use Rattle.std.specs.List.{list_all}
use Rattle.hierarchy.proofs.quiet.are_on.Given as goal

abbrev pub invariant-loop-class : goal.invariant-loop-class
invariant-loop-class l = list_all (λ u. slice_index_or l.marks u false) (take l.class-index l.list) ≡ true
