use Rattle.std.proofs.Common.{◌≡◌, ◌-◌}
use Rattle.verify.specs.Chains.{lifted, lift}
use Rattle.verify.proofs.chains.Chains.lift.Given as goal

abbrev pub invariant-loop : goal.invariant-loop
invariant-loop l = lifted (l.end - l.counter) l.self l.at l.depth ≡ lift l.self l.class l.depth
