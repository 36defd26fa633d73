use Rattle.std.proofs.Common.{length, ◌-◌}
use Rattle.quiet_methods.proofs.ranks.Ranks.sweep.Goals as goal
use Rattle.std.proofs.Common.{arith}
use Rattle.quiet_methods.proofs.Ranking.{sweeps_on}

-- src/ranks.rt:79:9
pub loop-turned-preserved : goal.loop-turned-preserved
loop-turned-preserved c = record {
  ranks = c.turn.ensures.kept;
  sweeps = sweeps_on c.args.nodes.now c.loop-turned.turned (length c.args.nodes.now - 1 - c.loop-turned.turned) c.args.self.now.next c.loop-turned.self.next c.turn.new.self.next c.loop-turned.self.given.items c.turn.new.self.given.items
      c.loop-turned-test.true (omega (arith, c.loop-turned-test.true)) c.loop-turned.invariant.sweeps c.turn.ensures.turns;
}
