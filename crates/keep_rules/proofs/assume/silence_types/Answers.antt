use Rattle.keep_rules.proofs.FitLemmas.{read_same}
use Rattle.keep_rules.proofs.GrownLemmas.{left_start}
use Rattle.keep_rules.proofs.SilentLemmas.{silent_among, types_more, types_end}
use Rattle.keep_rules.proofs.assume.silence_types.Goals as goal

pub loop-kind-init : goal.loop-kind-init
loop-kind-init c = λ k ready below is. left_start (silent_among c.args.view.now.program.now k c.args.kinds.now) c.args.silent.now.items

pub loop-kind-preserved : goal.loop-kind-preserved
loop-kind-preserved c = λ k ready below is. types_more c.args.view.now.program.now k c.args.kinds.now c.loop-kind.kind-index _ c.args.silent.now.items c.loop-kind.silent.items _ c.loop-kind-test.true (read_same c.args.kinds.now c.loop-kind.kind-index 0 c.loop-kind-test.true)
    (c.loop-kind.invariant k ready below is)
    (c.in_ok-silence_type.ensures k ready (below c.loop-kind.kind-index 0 c.loop-kind-test.true) is)

pub returns : goal.returns
returns c = λ k ready below is. types_end c.args.view.now.program.now k c.args.kinds.now c.loop-kind.kind-index c.args.silent.now.items c.loop-kind.silent.items c.loop-kind-test.false (c.loop-kind.invariant k ready below is)
