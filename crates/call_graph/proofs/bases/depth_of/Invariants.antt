use Rattle.std.proofs.Common.{◌≡◌, drop}
use Rattle.call_graph.specs.Bases.{without_brackets}
use Rattle.call_graph.proofs.bases.depth_of.Given as goal

abbrev pub invariant-loop-unit : goal.invariant-loop-unit
invariant-loop-unit l = record {
  at_unit : l.depth ≡ l.unit-index;
  rest : without_brackets (drop l.depth l.units) ≡ without_brackets l.units;
}
