use Rattle.std.proofs.Common.{◌∙◌, ◌∷◌, ap}
use Rattle.program_model.specs.Distinct.{proto_key}
use Rattle.static_protos.proofs.Grown.{inserted}
use Rattle.static_protos.proofs.tables.Additions.keep_proto.Goals as goal

pub returns-in_ok-push-in-None-clause-keys : goal.returns-in_ok-push-in-None-clause-keys
returns-in_ok-push-in-None-clause-keys c = λ e.
    inserted c.args.self.now.keys.keys c.insert.new.self.keys c.in_ok-key-in-None.field-0 (proto_key c.args.proto) c.args.place (c.in_ok-key-in-None.ensures ∙ ap (λ xs. c.args.proto.result ∷ xs) c.as_slice.ensures) c.in-None.is e c.in_ok-insert-in-None.ensures.keys
