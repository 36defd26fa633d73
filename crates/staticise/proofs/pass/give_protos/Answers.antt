use Rattle.std.proofs.Common.{arith}
use Rattle.staticise.proofs.Edited.{names_more, names_all}
use Rattle.staticise.proofs.pass.give_protos.Goals as goal

pub loop-place-preserved : goal.loop-place-preserved
loop-place-preserved c = names_more c.args.protos.now c.args.names.now c.loop-place.names c.loop-place.place _ c.give_proto.new.name c.proto_at.result (omega arith) c.loop-place.invariant c.proto_at.ensures c.give_proto.ensures

pub returns : goal.returns
returns c = names_all c.args.protos.now c.args.names.now c.loop-place.names c.loop-place.place (omega arith) c.loop-place.invariant
