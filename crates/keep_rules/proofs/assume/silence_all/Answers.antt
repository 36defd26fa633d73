use native.Mathlib.Omega.{arith}
use Rattle.class_defs.proofs.WellFormed.{sound}
use Rattle.keep_rules.proofs.SilentLemmas.{all_start, all_more, all_end}
use Rattle.keep_rules.proofs.assume.silence_all.Goals as goal

pub loop-kind-init : goal.loop-kind-init
loop-kind-init c = λ k ready is. all_start c.args.view.now.program.now k c.args.silent.now.items

pub loop-kind-preserved : goal.loop-kind-preserved
loop-kind-preserved c = λ k ready is. all_more c.args.view.now.program.now k c.loop-kind.kind c.args.silent.now.items c.loop-kind.silent.items _ (c.loop-kind.invariant k ready is) (c.in_ok-silence_type.ensures k ready (omega (arith, c.loop-kind-test.true, c.len-kind-end.ensures)) is)

pub returns : goal.returns
returns c = λ k ready is. let p = c.args.view.now.program.now in
    all_end p (sound p ready.formed) k c.loop-kind.kind c.args.silent.now.items c.loop-kind.silent.items (omega (arith, c.loop-kind-test.false, c.len-kind-end.ensures)) (c.loop-kind.invariant k ready is)
