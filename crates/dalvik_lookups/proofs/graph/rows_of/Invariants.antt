use Rattle.std.proofs.Common.{◌++◌, take}
use Rattle.dalvik_defs.specs.Known.{known_rows}
use Rattle.dalvik_lookups.specs.Views.{names_of, AreTypes}
use Rattle.dalvik_lookups.specs.Tables.{GrowsTypes}
use Rattle.dalvik_lookups.specs.Rows.{HaveRows}
use Rattle.dalvik_lookups.proofs.graph.rows_of.Given as goal

abbrev pub invariant-loop-row : goal.invariant-loop-row
invariant-loop-row l = record {
  grows : AreTypes l.initial.types → GrowsTypes l.initial.types l.types;
  made : AreTypes l.initial.types → HaveRows (names_of l.types) l.rows (known_rows ++ take l.row-index l.framework.rows);
}
