use Rattle.std.proofs.Common.{◌≡◌, drop}
use Rattle.dex_pools.specs.Tables.{spells_all}
use Rattle.dex_pools.proofs.protos.spells_all.Given as goal

abbrev pub invariant-loop-unit : goal.invariant-loop-unit
invariant-loop-unit l = spells_all l.letters (drop l.unit-index l.units) l.rest ≡ spells_all l.letters l.units l.kinds
