use Rattle.std.specs.List.{flat_map}
use Rattle.keep_rules.specs.Grown.{class_of_kind}
use Rattle.keep_rules.proofs.FitLemmas.{read_same}
use Rattle.keep_rules.proofs.KeepLemmas.{classes_start, kinds_more, kinds_end}
use Rattle.keep_rules.proofs.keep.keep_kinds.Goals as goal

pub loop-kind-init : goal.loop-kind-init
loop-kind-init c = λ k ready is keeps standing. classes_start c.args.view.now.program.now k (flat_map (class_of_kind c.args.view.now.program.now) c.args.kinds.now) c.args.marks.now

pub loop-kind-preserved : goal.loop-kind-preserved
loop-kind-preserved c = λ k ready is keeps standing. kinds_more c.args.view.now.program.now k c.args.kinds.now c.loop-kind.kind-index _ c.args.marks.now c.loop-kind.marks c.keep_kind.new.marks c.loop-kind-test.true (read_same c.args.kinds.now c.loop-kind.kind-index 0 c.loop-kind-test.true)
    (c.loop-kind.invariant k ready is keeps standing) (c.in_ok-keep_kind.ensures k ready is keeps standing)

pub returns : goal.returns
returns c = λ k ready is keeps standing. kinds_end c.args.view.now.program.now k c.args.kinds.now c.loop-kind.kind-index c.args.marks.now c.loop-kind.marks c.loop-kind-test.false (c.loop-kind.invariant k ready is keeps standing)
