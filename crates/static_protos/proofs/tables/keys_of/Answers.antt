use Rattle.std.proofs.Common.{◌∙◌, ◌∷◌, ap, map, take_all}
use Rattle.program_model.specs.Distinct.{proto_key}
use Rattle.static_protos.proofs.Sets.{set_more}
use Rattle.static_protos.proofs.tables.keys_of.Goals as goal

pub loop-proto-preserved : goal.loop-proto-preserved
loop-proto-preserved c = λ differ.
    set_more proto_key c.args.protos.now c.loop-proto.proto-index c.proto-item.result c.loop-proto.keys.keys c.insert.new.self.keys c.in_ok-key.field-0 c.loop-proto-test.true c.proto-item.is differ (c.in_ok-key.ensures ∙ ap (λ xs. c.proto-item.result.result ∷ xs) c.as_slice.ensures) (c.loop-proto.invariant differ) c.in_ok-insert.ensures.keys

pub returns : goal.returns
returns c = λ differ. c.loop-proto.invariant differ ∙ ap (map proto_key) (take_all c.loop-proto.proto-index c.args.protos.now c.loop-proto-test.false)
