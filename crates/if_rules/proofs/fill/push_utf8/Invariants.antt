use Rattle.std.proofs.Common.{◌≡◌, ◌++◌, length}
use Rattle.if_rules.specs.Instances.{utf8}
use Rattle.if_rules.proofs.fill.push_utf8.Given as goal

abbrev pub invariant-loop-rest : goal.invariant-loop-rest
invariant-loop-rest l = l.out.items ++ utf8 l.rest ≡ l.fn.out.items ++ utf8 l.fn.text

abbrev pub decreases-loop-rest : goal.decreases-loop-rest
decreases-loop-rest l = length l.rest
