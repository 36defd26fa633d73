use Rattle.std.proofs.Common.{◌≡◌, ◌++◌, take}
use Rattle.std.specs.List.{flat_map}
use Rattle.code_write.specs.Payloads.{target_bytes}
use Rattle.code_write.specs.Code.{spots_of}
use Rattle.code_write.proofs.payload.push_targets.Given as goal

abbrev pub invariant-loop-target : goal.invariant-loop-target
invariant-loop-target l = l.out.items ≡ l.fn.out.items ++ flat_map (target_bytes (spots_of l.layout) l.from) (take l.target-index l.targets)
