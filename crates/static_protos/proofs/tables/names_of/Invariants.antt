use Rattle.std.proofs.Common.{◌≡◌, ℕ, take}
use Rattle.std.specs.HashSet.{contains_by}
use Rattle.std.specs.List.{list_any}
use Rattle.program_model.specs.declared.pools.MethodName.{MethodName}
use Rattle.static_protos.specs.Growing.{same_pair}
use Rattle.static_protos.proofs.tables.names_of.Given as goal

abbrev pub invariant-loop-method : goal.invariant-loop-method
invariant-loop-method l = (name proto : ℕ) → contains_by (same_pair (name, proto)) l.names ≡ list_any (λ (m : MethodName). same_pair (name, proto) (m.name, m.proto)) (take l.method-index l.methods)
