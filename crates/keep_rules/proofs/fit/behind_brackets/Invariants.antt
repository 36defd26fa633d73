use Rattle.std.proofs.Common.{◌≡◌}
use Rattle.keep_rules.specs.Fits.{behind_of}
use Rattle.keep_rules.proofs.fit.behind_brackets.Given as goal

abbrev pub invariant-loop-left : goal.invariant-loop-left
invariant-loop-left l = behind_of l.left l.rest ≡ behind_of l.fn.depth l.fn.descriptor

abbrev pub decreases-loop-left : goal.decreases-loop-left
decreases-loop-left l = l.left
