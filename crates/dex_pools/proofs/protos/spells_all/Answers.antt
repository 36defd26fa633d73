use Rattle.std.proofs.Common.{sym, ◌∙◌}
use Rattle.dex_pools.proofs.Shorties.{too_many}
use Rattle.dex_pools.proofs.protos.spells_all.Goals as goal

pub returns-in_default : goal.returns-in_default
returns-in_default c = sym (too_many c.args.letters.now c.args.units.now c.loop-unit.rest.now c.loop-unit.unit-index c.loop-unit-test.true c.in_default.len_below) ∙ c.loop-unit.invariant
