use Rattle.std.proofs.Common.{◌≡◌, ◌≤◌, take}
use Rattle.class_defs.specs.ClassGraph.{package_of}
use Rattle.devirt.proofs.access.package_size.Given as goal

abbrev pub invariant-loop-at : goal.invariant-loop-at
invariant-loop-at l = record {
  front : take l.size l.units ≡ package_of (take l.at l.units);
  short : l.size ≤ l.at;
}
