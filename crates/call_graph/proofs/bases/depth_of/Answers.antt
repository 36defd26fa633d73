use Rattle.std.proofs.Common.{◌∙◌, arith}
use Rattle.call_graph.proofs.Descriptors.{one_at, no_more, at_end}
use Rattle.call_graph.proofs.bases.depth_of.Goals as goal

pub returns-then-unit-ne91-clause-rest : goal.returns-then-unit-ne91-clause-rest
returns-then-unit-ne91-clause-rest c = no_more c.args.units.now c.loop-unit.depth c.loop-unit.unit-index 0 c.loop-unit.invariant.at_unit c.loop-unit-test.true c.if-unit-ne91.true ∙ c.loop-unit.invariant.rest

pub loop-unit-preserved : goal.loop-unit-preserved
loop-unit-preserved c = record {
  at_unit = omega (arith, c.loop-unit.invariant.at_unit);
  rest = one_at c.args.units.now c.loop-unit.depth c.loop-unit.unit-index 0 c.loop-unit.invariant.at_unit c.loop-unit-test.true c.if-unit-ne91.false ∙ c.loop-unit.invariant.rest;
}

pub returns-clause-rest : goal.returns-clause-rest
returns-clause-rest c = at_end c.args.units.now c.loop-unit.depth (omega (arith, c.loop-unit.invariant.at_unit, c.loop-unit-test.false)) ∙ c.loop-unit.invariant.rest
