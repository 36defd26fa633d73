use Rattle.keep_rules.specs.Described.{proto_names, method_names}
use Rattle.std.specs.Prelude.{slice_get}
use Rattle.keep_rules.proofs.DescribedLemmas.{listed_none, listed_as, method_named, method_unnamed}
use Rattle.keep_rules.proofs.describe.add_method.Goals as goal

pub returns-in_ok-add_proto_at-in-Some : goal.returns-in_ok-add_proto_at-in-Some
returns-in_ok-add_proto_at-in-Some c = λ ready. let p = c.args.view.now.program.now in
    listed_as p (λ n. proto_names p n (slice_get p.protos c.in-Some.name.now.proto)) (λ n. method_names p n c.args.method) c.args.out.now.items _ (λ n h. method_named p n c.args.method c.in-Some.name.now c.in-Some.ensures) (c.in_ok-add_proto_at-in-Some.ensures ready)

pub returns-in-None : goal.returns-in-None
returns-in-None c = λ ready. let p = c.args.view.now.program.now in listed_none p (λ n. method_names p n c.args.method) c.args.out.now.items (λ n h. method_unnamed p n c.args.method c.in-None.ensures)
