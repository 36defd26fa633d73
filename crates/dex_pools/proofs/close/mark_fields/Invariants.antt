use Rattle.std.proofs.Common.{◌≡◌, take}
use Rattle.std.specs.List.{flat_map}
use Rattle.dex_pools.specs.Used.{marked}
use Rattle.dex_pools.specs.Numbering.{names_of_field}
use Rattle.dex_pools.proofs.close.mark_fields.Given as goal

abbrev pub invariant-loop-number : goal.invariant-loop-number
invariant-loop-number l = l.used ≡ marked l.fn.used (flat_map (names_of_field l.fields) (take l.number-index l.numbers))
