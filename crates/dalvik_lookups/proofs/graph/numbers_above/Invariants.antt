use Rattle.std.proofs.Common.{◌∷◌, take}
use Rattle.dalvik_lookups.specs.Views.{names_of, AreTypes}
use Rattle.dalvik_lookups.specs.Tables.{Stand, GrowsTypes}
use Rattle.dalvik_lookups.proofs.graph.numbers_above.Given as goal

abbrev pub invariant-loop-interface : goal.invariant-loop-interface
invariant-loop-interface l = record {
  grows : AreTypes l.initial.types → GrowsTypes l.initial.types l.types;
  stand : AreTypes l.fn.types → Stand (names_of l.types) l.above.items (l.row.superclass ∷ take l.interface-index l.row.interfaces);
}
