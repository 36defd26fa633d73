use Rattle.std.proofs.Common.{◌≡◌, map, take}
use Rattle.dalvik_lookups.specs.Declaring.{field_key}
use Rattle.dalvik_lookups.proofs.declared.keys_of_fields.Given as goal

abbrev pub invariant-loop-field : goal.invariant-loop-field
invariant-loop-field l = record { keys : l.keys.items ≡ map (field_key l.program l.strings l.kinds) (take l.field-index l.class.fields) }
