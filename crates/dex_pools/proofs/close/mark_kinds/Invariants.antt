use Rattle.std.proofs.Common.{◌≡◌, drop}
use Rattle.dex_pools.specs.Used.{marked}
use Rattle.dex_pools.specs.Numbering.{kinds}
use Rattle.dex_pools.proofs.close.mark_kinds.Given as goal

abbrev pub invariant-loop-number : goal.invariant-loop-number
invariant-loop-number l = marked l.used (kinds (drop l.number-index l.numbers)) ≡ marked l.fn.used (kinds l.numbers)
