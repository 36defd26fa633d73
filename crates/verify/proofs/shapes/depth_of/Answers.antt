use Rattle.std.proofs.Common.{◌∙◌, arith}
use Rattle.verify.proofs.Descriptions.{rest_on, rest_end, rest_here, count_on, counted_all, counted_here}
use Rattle.verify.proofs.shapes.depth_of.Goals as goal

pub returns-then-unit-ne91-clause-rest : goal.returns-then-unit-ne91-clause-rest
returns-then-unit-ne91-clause-rest c = rest_here c.args.units.now c.loop-unit.depth c.loop-unit.unit-index 0 c.loop-unit.invariant.at_unit c.loop-unit-test.true c.if-unit-ne91.true ∙ c.loop-unit.invariant.rest

pub returns-then-unit-ne91-clause-count : goal.returns-then-unit-ne91-clause-count
returns-then-unit-ne91-clause-count c = counted_here c.args.units.now c.loop-unit.depth c.loop-unit.unit-index 0 c.loop-unit.invariant.at_unit c.loop-unit-test.true c.if-unit-ne91.true c.loop-unit.invariant.count

pub loop-unit-preserved : goal.loop-unit-preserved
loop-unit-preserved c = record {
  at_unit = omega (arith, c.loop-unit.invariant.at_unit);
  rest = rest_on c.args.units.now c.loop-unit.depth c.loop-unit.unit-index 0 c.loop-unit.invariant.at_unit c.loop-unit-test.true c.if-unit-ne91.false ∙ c.loop-unit.invariant.rest;
  count = count_on c.args.units.now c.loop-unit.depth c.loop-unit.unit-index 0 c.loop-unit.invariant.at_unit c.loop-unit-test.true c.if-unit-ne91.false c.loop-unit.invariant.count;
}

pub returns-clause-rest : goal.returns-clause-rest
returns-clause-rest c = rest_end c.args.units.now c.loop-unit.depth (omega (arith, c.loop-unit.invariant.at_unit, c.loop-unit-test.false)) ∙ c.loop-unit.invariant.rest

pub returns-clause-count : goal.returns-clause-count
returns-clause-count c = counted_all c.args.units.now c.loop-unit.depth (omega (arith, c.loop-unit.invariant.at_unit, c.loop-unit-test.false)) c.loop-unit.invariant.count
