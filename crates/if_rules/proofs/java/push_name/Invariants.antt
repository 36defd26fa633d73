use Rattle.std.proofs.Common.{◌≡◌, ◌++◌, length}
use Rattle.if_rules.proofs.java.push_name.Given as goal

abbrev pub invariant-loop-rest : goal.invariant-loop-rest
invariant-loop-rest l = l.out.items ++ l.rest ≡ l.fn.out.items ++ l.fn.name

abbrev pub decreases-loop-rest : goal.decreases-loop-rest
decreases-loop-rest l = length l.rest
