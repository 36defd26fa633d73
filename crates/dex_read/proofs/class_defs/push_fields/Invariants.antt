use Rattle.std.proofs.Common.{◌≡◌, ◌++◌, map, take}
use Rattle.dex_read.specs.Classes.{field_with}
use Rattle.dex_read.proofs.class_defs.push_fields.Given as goal

abbrev pub invariant-loop-entry : goal.invariant-loop-entry
invariant-loop-entry l = l.fields.items ≡ l.fn.fields.items ++ map field_with (take l.entry-index l.entries)
