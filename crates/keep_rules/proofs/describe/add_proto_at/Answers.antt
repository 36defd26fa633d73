use Rattle.std.proofs.Common.{ap, sym}
use Rattle.std.specs.List.{list_any}
use Rattle.std.specs.Prelude.{◌∷◌, slice_get}
use Rattle.keep_rules.specs.Described.{names_class, proto_names}
use Rattle.keep_rules.proofs.DescribedLemmas.{listed_none, listed_as}
use Rattle.keep_rules.proofs.describe.add_proto_at.Goals as goal

pub returns-in_ok-add_proto-in-Some : goal.returns-in_ok-add_proto-in-Some
returns-in_ok-add_proto-in-Some c = λ ready. let p = c.args.view.now.program.now in
    listed_as p (λ n. list_any (names_class p n) (c.in-Some.proto.now.result ∷ c.in-Some.proto.now.parameters)) (λ n. proto_names p n (slice_get p.protos c.args.proto)) c.args.out.now.items _ (λ n h. ap (proto_names p n) c.in-Some.ensures) (c.in_ok-add_proto-in-Some.ensures ready)

pub returns-in-None : goal.returns-in-None
returns-in-None c = λ ready. let p = c.args.view.now.program.now in listed_none p (λ n. proto_names p n (slice_get p.protos c.args.proto)) c.args.out.now.items (λ n h. ap (proto_names p n) (sym c.in-None.ensures))
