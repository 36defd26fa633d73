use Rattle.std.proofs.Common.{◌≡◌, ◌++◌, drop, map}
use Rattle.dex_write.specs.Lists.{lists_in, proto_use, all_lists, indexes_of}
use Rattle.dex_write.proofs.lists.know_parameters.Given as goal

abbrev pub invariant-loop-old : goal.invariant-loop-old
invariant-loop-old l = record {
  lists : all_lists (lists_in l.known.keys) (map (proto_use l.types l.program) (drop l.old-index l.protos)) ≡ all_lists (lists_in l.fn.known.keys) (map (proto_use l.types l.program) l.protos);
  uses : l.uses.items ++ indexes_of (lists_in l.known.keys) (map (proto_use l.types l.program) (drop l.old-index l.protos)) ≡ indexes_of (lists_in l.fn.known.keys) (map (proto_use l.types l.program) l.protos);
}
