use Rattle.std.proofs.Common.{◌≡◌, ◌+◌, drop}
use Rattle.verify.specs.Descriptors.{brackets, without_brackets}
use Rattle.verify.proofs.shapes.depth_of.Given as goal

abbrev pub invariant-loop-unit : goal.invariant-loop-unit
invariant-loop-unit l = record {
  at_unit : l.depth ≡ l.unit-index;
  rest : without_brackets (drop l.depth l.units) ≡ without_brackets l.units;
  count : brackets l.units ≡ l.depth + brackets (drop l.depth l.units);
}
