use Rattle.std.proofs.Common.{◌≡◌, ap, subst, length, arith}
use Rattle.call_targets.specs.Adding.{Adds}
use Rattle.call_targets.specs.Beginning.{class_notes, all_class_notes}
use Rattle.call_targets.proofs.Adding.{adds_none}
use Rattle.call_targets.proofs.Contained.{at_place}
use Rattle.call_targets.proofs.Stepping.{classes_step, over_all}
use Rattle.call_targets.proofs.entered.begin.Goals as goal

pub loop-place-init : goal.loop-place-init
loop-place-init c = λ few is. adds_none c.args.targets.now

pub loop-place-preserved : goal.loop-place-preserved
loop-place-preserved c = λ few is.
    let p = c.args.at.now.program.now in
    let slice = c.as_slice-class-items.result.now in
    let long = ap length c.as_slice-class-items.ensures in
    let word : c.word.result ≡ c.loop-place.place = c.word.ensures (omega (arith, c.loop-place-test.true, long, few)) in
    classes_step c.args.targets.now c.loop-place.targets c.begin_class.new.targets p c.args.kept.now p.classes c.loop-place.place c.class-item.result
    (at_place p.classes slice c.loop-place.place c.class-item.result c.as_slice-class-items.ensures c.class-item.is c.loop-place-test.true) (c.loop-place.invariant few is)
    (subst (λ n. Adds (class_notes p c.args.kept.now n c.class-item.result) c.loop-place.targets c.begin_class.new.targets) word (c.begin_class.ensures is))

pub returns : goal.returns
returns c = λ few is. over_all (all_class_notes c.args.at.now.program.now c.args.kept.now 0) c.args.targets.now c.loop-place.targets c.args.at.now.program.now.classes c.loop-place.place (let l = c.loop-place-test.false in let e = ap length c.as_slice-class-items.ensures in omega (arith, l, e)) (c.loop-place.invariant few is)
