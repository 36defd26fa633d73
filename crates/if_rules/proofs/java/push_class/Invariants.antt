use Rattle.std.proofs.Common.{◌≡◌, ◌++◌, length, map}
use Rattle.if_rules.specs.Matched.{dotted}
use Rattle.if_rules.proofs.java.push_class.Given as goal

abbrev pub invariant-loop-rest : goal.invariant-loop-rest
invariant-loop-rest l = l.out.items ++ map dotted l.rest ≡ l.fn.out.items ++ map dotted l.fn.name

abbrev pub decreases-loop-rest : goal.decreases-loop-rest
decreases-loop-rest l = length l.rest
