use Rattle.std.proofs.Common.{◌≡◌, true, map, take}
use Rattle.program_model.specs.Distinct.{all_differ, proto_key}
use Rattle.static_protos.proofs.tables.keys_of.Given as goal

abbrev pub invariant-loop-proto : goal.invariant-loop-proto
invariant-loop-proto l = all_differ proto_key l.protos ≡ true → map (λ v. v.items) l.keys.keys ≡ map proto_key (take l.proto-index l.protos)
