use Rattle.std.proofs.Common.{ap}
use Rattle.std.specs.List.{list_any}
use Rattle.std.specs.Prelude.{◌||◌}
use Rattle.keep_rules.specs.Described.{names_class}
use Rattle.keep_rules.proofs.DescribedLemmas.{listed_then, listed_as}
use Rattle.keep_rules.proofs.describe.add_proto.Goals as goal

pub returns : goal.returns
returns c = λ ready. let p = c.args.view.now.program.now in
    listed_as p (λ n. names_class p n c.args.proto.now.result || list_any (names_class p n) c.as_slice.result.now) (λ n. names_class p n c.args.proto.now.result || list_any (names_class p n) c.args.proto.now.parameters) c.args.out.now.items _
    (λ n h. ap (λ l. names_class p n c.args.proto.now.result || list_any (names_class p n) l) c.as_slice.ensures)
    (listed_then p (λ n. names_class p n c.args.proto.now.result) (λ n. list_any (names_class p n) c.as_slice.result.now) c.args.out.now.items c.add_class.new.out.items _ (c.in_ok-add_class.ensures ready) (c.in_ok-add_classes.ensures ready))
