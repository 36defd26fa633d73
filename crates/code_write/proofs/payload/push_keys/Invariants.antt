use Rattle.std.proofs.Common.{◌≡◌, ◌++◌, take}
use Rattle.std.specs.List.{flat_map}
use Rattle.std.specs.Int.{w32, cast_unsigned}
use Rattle.code_write.specs.Payloads.{number_bytes}
use Rattle.code_write.proofs.payload.push_keys.Given as goal

abbrev pub invariant-loop-key : goal.invariant-loop-key
invariant-loop-key l = l.out.items ≡ l.fn.out.items ++ flat_map (λ key. number_bytes (cast_unsigned w32 key)) (take l.key-index l.keys)
