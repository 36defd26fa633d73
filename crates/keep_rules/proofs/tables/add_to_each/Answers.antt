use Rattle.keep_rules.proofs.FitLemmas.{read_same}
use Rattle.keep_rules.proofs.ViewLemmas.{each_none, each_more, each_end}
use Rattle.keep_rules.proofs.tables.add_to_each.Goals as goal

pub loop-kind-init : goal.loop-kind-init
loop-kind-init c = each_none c.args.number c.args.lists.now.items

pub loop-kind-preserved : goal.loop-kind-preserved
loop-kind-preserved c = each_more c.args.kinds.now c.loop-kind.kind-index _ c.args.number c.args.lists.now.items c.loop-kind.lists.items _ c.loop-kind-test.true (read_same c.args.kinds.now c.loop-kind.kind-index 0 c.loop-kind-test.true) c.loop-kind.invariant c.in_ok-add_to.ensures

pub returns : goal.returns
returns c = each_end c.args.kinds.now c.loop-kind.kind-index c.args.number c.args.lists.now.items c.loop-kind.lists.items c.loop-kind-test.false c.loop-kind.invariant
