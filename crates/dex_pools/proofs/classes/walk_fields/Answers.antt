use Rattle.dex_pools.specs.Used.{field_names}
use Rattle.dex_pools.proofs.Names.{walks_on}
use Rattle.dex_pools.proofs.classes.walk_fields.Goals as goal

pub loop-field-preserved : goal.loop-field-preserved
loop-field-preserved c =
    walks_on field_names c.args.used.now c.loop-field.used c.walk_field.new.used c.args.fields.now c.loop-field.field-index c.field-item.result c.loop-field.invariant c.loop-field-test.true c.field-item.is c.walk_field.ensures
