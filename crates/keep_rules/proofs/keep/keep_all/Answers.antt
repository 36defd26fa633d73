use native.Mathlib.Omega.{arith}
use Rattle.keep_rules.proofs.KeepLemmas.{classes_start, places_more, places_end}
use Rattle.keep_rules.proofs.keep.keep_all.Goals as goal

pub loop-place-init : goal.loop-place-init
loop-place-init c = λ k formed is keeps standing. classes_start c.args.program.now k c.args.program.now.classes c.args.marks.now

pub loop-place-preserved : goal.loop-place-preserved
loop-place-preserved c = λ k formed is keeps standing. places_more c.args.program.now k c.loop-place.place c.args.marks.now c.loop-place.marks c.keep_place.new.marks (omega (arith, c.loop-place-test.true, c.len-place-end.ensures))
    (c.loop-place.invariant k formed is keeps standing) (c.in_ok-keep_place.ensures k formed is keeps standing)

pub returns : goal.returns
returns c = λ k formed is keeps standing. places_end c.args.program.now k c.loop-place.place c.args.marks.now c.loop-place.marks (omega (arith, c.loop-place-test.false, c.len-place-end.ensures)) (c.loop-place.invariant k formed is keeps standing)
