use Rattle.std.proofs.Common.{◌≡◌, take}
use Rattle.std.specs.List.{flat_map}
use Rattle.dex_pools.specs.Used.{marked, field_names}
use Rattle.dex_pools.proofs.classes.walk_fields.Given as goal

abbrev pub invariant-loop-field : goal.invariant-loop-field
invariant-loop-field l = l.used ≡ marked l.fn.used (flat_map field_names (take l.field-index l.fields))
