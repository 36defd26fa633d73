use Rattle.std.proofs.Common.{◌≡◌, map, take}
use Rattle.dalvik_lookups.specs.Declaring.{method_key}
use Rattle.dalvik_lookups.proofs.declared.keys_of_methods.Given as goal

abbrev pub invariant-loop-method : goal.invariant-loop-method
invariant-loop-method l = record { keys : l.keys.items ≡ map (method_key l.program l.strings l.protos) (take l.method-index l.class.methods) }
