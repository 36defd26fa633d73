use Rattle.std.proofs.Common.{◌≡◌, ◌+◌, ◌-◌, length}
use Rattle.verify.specs.Chains.{meets}
use Rattle.verify.proofs.chains.Chains.meet.Given as goal

abbrev pub invariant-loop : goal.invariant-loop
invariant-loop l = meets (l.end - l.counter) l.self l.one l.other ≡ meets (length l.self.supers.items + 1) l.self l.first l.second
