use native.Mathlib.Omega.{arith}
use Rattle.class_defs.proofs.WellFormed.{sound}
use Rattle.keep_rules.proofs.BelowLemmas.{wanted_start, wanted_more, wanted_end}
use Rattle.keep_rules.proofs.above.add_all.Goals as goal

pub loop-kind-init : goal.loop-kind-init
loop-kind-init c = λ a ready is. wanted_start c.args.view.now.program.now a c.args.kinds.now.items c.requires

pub loop-kind-preserved : goal.loop-kind-preserved
loop-kind-preserved c = λ a ready is. wanted_more c.args.view.now.program.now a c.loop-kind.kind c.loop-kind.kinds.items _ (c.loop-kind.invariant a ready is) (c.in_ok-add_above.ensures a ready (omega (arith, c.loop-kind-test.true, c.len-kind-end.ensures)) is)

pub returns : goal.returns
returns c = λ a ready is. let p = c.args.view.now.program.now in
    wanted_end p (sound p ready.formed) c.args.view.now.hierarchy.now ready.of a c.loop-kind.kinds.items c.loop-kind.kind (omega (arith, c.loop-kind-test.false, c.len-kind-end.ensures)) (c.loop-kind.invariant a ready is)
