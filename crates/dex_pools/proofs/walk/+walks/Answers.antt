use Rattle.dex_pools.specs.Used.{value_names, element_names}
use Rattle.dex_pools.proofs.Names.{walks_on}
use Rattle.dex_pools.proofs.walk.+walks.Goals as goal

pub walk_values-loop-value-preserved : goal.walk_values-loop-value-preserved
walk_values-loop-value-preserved t c =
    walks_on value_names c.args.used.now c.loop-value.used c.walk_value.new.used c.args.values.now c.loop-value.value-index c.value-item.result c.loop-value.invariant c.loop-value-test.true c.value-item.is c.walk_value.ensures

pub walk_elements-loop-element-preserved : goal.walk_elements-loop-element-preserved
walk_elements-loop-element-preserved t c =
    walks_on element_names c.args.used.now c.loop-element.used c.walk_element.new.used c.args.elements.now c.loop-element.element-index c.element-item.result c.loop-element.invariant c.loop-element-test.true c.element-item.is c.walk_element.ensures
