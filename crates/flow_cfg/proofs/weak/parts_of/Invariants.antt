use Rattle.std.proofs.Common.{◌≡◌, take}
use Rattle.flow_cfg.specs.Parts.{part_nodes, part_ends}
use Rattle.flow_cfg.proofs.weak.parts_of.Given as goal

abbrev pub invariant-loop-place : goal.invariant-loop-place
invariant-loop-place l = record {
  nodes : part_nodes l.parts.items ≡ take l.place l.order;
  ends : part_ends l.parts.items ≡ take l.place l.ends;
}
