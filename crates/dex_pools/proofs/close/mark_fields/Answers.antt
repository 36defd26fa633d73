use Rattle.dex_pools.specs.Numbering.{names_of_field}
use Rattle.dex_pools.proofs.Names.{walks_at}
use Rattle.dex_pools.proofs.close.mark_fields.Goals as goal

pub loop-number-preserved : goal.loop-number-preserved
loop-number-preserved c =
    walks_at (names_of_field c.args.fields.now) c.args.used.now c.loop-number.used c.mark_field.new.used c.args.numbers.now c.loop-number.number-index 0 c.loop-number.invariant c.loop-number-test.true c.mark_field.ensures
