use Rattle.std.proofs.Common.{All, take}
use Rattle.std.specs.Int.{w32}
use Rattle.std.specs.Int.RustNames.{FitsSigned}
use Rattle.premises.proofs.numbers.read_keys.Given as goal

abbrev pub invariant-loop-key : goal.invariant-loop-key
invariant-loop-key l = All (FitsSigned w32) (take l.key-index l.keys)
