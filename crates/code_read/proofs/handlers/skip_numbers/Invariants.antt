use Rattle.std.proofs.Common.{◌≡◌}
use Rattle.code_read.specs.Handlers.{skip_numbers}
use Rattle.code_read.proofs.handlers.skip_numbers.Given as goal

abbrev pub invariant-loop-left : goal.invariant-loop-left
invariant-loop-left l = skip_numbers l.bytes l.left l.at ≡ skip_numbers l.bytes l.count l.from

abbrev pub decreases-loop-left : goal.decreases-loop-left
decreases-loop-left l = l.left
