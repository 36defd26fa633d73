use Rattle.std.proofs.Common.{◌≡◌, ◌≤◌, ◌+◌, ◌++◌, length}
use Rattle.rule_text.specs.Related.{brackets}
use Rattle.if_rules.specs.Matched.{java}
use Rattle.if_rules.proofs.java.java.Given as goal

abbrev pub invariant-loop-depth : goal.invariant-loop-depth
invariant-loop-depth l = (java l.rest ++ brackets l.depth ≡ java l.fn.descriptor) × (l.depth + length l.rest ≤ length l.fn.descriptor)

abbrev pub decreases-loop-depth : goal.decreases-loop-depth
decreases-loop-depth l = length l.rest
