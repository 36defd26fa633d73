use Rattle.std.proofs.Common.{◌≡◌, ◌++◌, length}
use Rattle.if_rules.specs.Lists.{lists_of}
use Rattle.if_rules.specs.Matched.{glob_texts}
use Rattle.if_rules.proofs.globs.glob_texts.Given as goal

abbrev pub invariant-loop-left : goal.invariant-loop-left
invariant-loop-left l = lists_of l.out.items ++ glob_texts l.fn.named l.left l.rest ≡ lists_of l.fn.out.items ++ glob_texts l.fn.named l.fn.pieces l.fn.text

abbrev pub decreases-loop-left : goal.decreases-loop-left
decreases-loop-left l = length l.left
