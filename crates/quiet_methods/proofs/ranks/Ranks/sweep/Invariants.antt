use Rattle.quiet_methods.specs.Steps.{AreRanks, Sweeps}
use Rattle.quiet_methods.proofs.ranks.Ranks.sweep.Given as goal

abbrev pub invariant-loop-turned : goal.invariant-loop-turned
invariant-loop-turned l = record {
  ranks : AreRanks l.nodes l.self.given.items l.self.next;
  sweeps : Sweeps l.nodes l.turned l.initial.self.next l.self.given.items l.self.next;
}
