use Rattle.std.proofs.Common.{◌≡◌, ◌<◌, ℕ, length, None}
use Rattle.std.specs.Prelude.{slice_index_or}
use Rattle.hierarchy.specs.Shapes.{IsOf}
use Rattle.verify.specs.Building.{class_above}
use Rattle.verify.proofs.building.classes_above.Given as goal

abbrev pub invariant-loop-class : goal.invariant-loop-class
invariant-loop-class l = record {
  size : length l.supers.items ≡ l.class;
  is : IsOf l.program l.hierarchy → (k : ℕ) → k < l.class → slice_index_or l.supers.items k None ≡ class_above l.program k;
}
