use Rattle.std.specs.List.{list_any}
use Rattle.keep_rules.specs.Described.{names_class}
use Rattle.keep_rules.proofs.FitLemmas.{read_same}
use Rattle.keep_rules.proofs.DescribedLemmas.{lists_start, lists_more, lists_end}
use Rattle.keep_rules.proofs.describe.add_classes.Goals as goal

pub loop-kind-init : goal.loop-kind-init
loop-kind-init c = λ ready. lists_start c.args.view.now.program.now (λ n. list_any (names_class c.args.view.now.program.now n) c.args.kinds.now) c.args.out.now.items

pub loop-kind-preserved : goal.loop-kind-preserved
loop-kind-preserved c = λ ready. lists_more c.args.view.now.program.now (names_class c.args.view.now.program.now) c.args.kinds.now c.loop-kind.kind-index _ c.args.out.now.items c.loop-kind.out.items _ c.loop-kind-test.true (read_same c.args.kinds.now c.loop-kind.kind-index 0 c.loop-kind-test.true) (c.loop-kind.invariant ready) (c.in_ok-add_class.ensures ready)

pub returns : goal.returns
returns c = λ ready. lists_end c.args.view.now.program.now (names_class c.args.view.now.program.now) c.args.kinds.now c.loop-kind.kind-index c.args.out.now.items c.loop-kind.out.items c.loop-kind-test.false (c.loop-kind.invariant ready)
