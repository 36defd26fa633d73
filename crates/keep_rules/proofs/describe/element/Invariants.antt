use Rattle.std.proofs.Common.{◌≡◌, length}
use Rattle.dalvik_defs.specs.Names.{base_of}
use Rattle.keep_rules.proofs.describe.element.Given as goal

abbrev pub invariant-loop-rest : goal.invariant-loop-rest
invariant-loop-rest l = base_of l.rest ≡ base_of l.descriptor

abbrev pub decreases-loop-rest : goal.decreases-loop-rest
decreases-loop-rest l = length l.rest
