use Rattle.line_tables.proofs.Walking.{skips_on}
use Rattle.line_tables.proofs.opcode.skip.Goals as goal

pub loop-preserved : goal.loop-preserved
loop-preserved c = skips_on c.args.bytes.now c.args.count c.loop.counter c.loop.next c.in_ok-behind.field-0-0 c.in_ok-behind.behind _ c.loop-test.true c.in_ok-behind.ensures.gives c.loop.invariant
