use Rattle.std.proofs.Common.{◌≡◌, ◌++◌, drop}
use Rattle.code_write.specs.Tries.{tries_text}
use Rattle.code_write.proofs.tries.push_tries.Given as goal

abbrev pub invariant-loop-place : goal.invariant-loop-place
invariant-loop-place l = l.out.items ++ tries_text l.starts l.end (drop l.place l.regions) (drop l.place l.offsets) ≡ l.fn.out.items ++ tries_text l.starts l.end l.regions l.offsets
