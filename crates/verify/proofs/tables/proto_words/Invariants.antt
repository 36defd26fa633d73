use Rattle.std.proofs.Common.{◌≡◌, take, map}
use Rattle.std.specs.Prelude.{sum_by}
use Rattle.verify.specs.Descriptors.{short, width_in}
use Rattle.verify.proofs.tables.proto_words.Given as goal

abbrev pub invariant-loop-proto : goal.invariant-loop-proto
invariant-loop-proto l = l.words.items ≡ map (λ q. short (sum_by (width_in l.shapes) q.parameters)) (take l.proto-index l.protos)
