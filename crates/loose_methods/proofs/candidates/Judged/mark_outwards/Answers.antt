use Rattle.std.proofs.Common.{◌≡◌, Some, ap, subst, sym, length, arith}
use Rattle.std.specs.Prelude.{slice_get}
use Rattle.class_defs.proofs.WellFormed.{few_classes}
use Rattle.loose_methods.specs.Asked.{MarksOutward}
use Rattle.loose_methods.proofs.Placed.{got_in}
use Rattle.loose_methods.proofs.Under.{outwards_more, outwards_end}
use Rattle.loose_methods.proofs.candidates.Judged.mark_outwards.Goals as goal

pub loop-place-init : goal.loop-place-init
loop-place-init c = λ j same none. none

pub loop-place-preserved : goal.loop-place-preserved
loop-place-preserved c = λ j same none.
    let p = c.args.self.now.program.now in
    let i = c.loop-place.place in
    let lt = c.loop-place-test.true in
    let few = few_classes p j.formed in
    let long = ap length same in
    let at : c.word.result ≡ i = c.word.ensures (omega (arith, lt, few, long)) in
    outwards_more p i c.loop-place.marks c.mark_outward.new.marks (c.loop-place.invariant j same none)
    (subst (λ n. MarksOutward p n c.loop-place.marks c.mark_outward.new.marks) at
    (c.in_ok-mark_outward.ensures j (subst (λ n. slice_get p.classes n ≡ Some c.index-classes-place.result) (sym at) (got_in c.args.classes.now p.classes i c.index-classes-place.result same lt c.index-classes-place.is))))

pub returns : goal.returns
returns c = λ j same none.
    let ge = c.loop-place-test.false in
    let long = ap length same in
    outwards_end c.args.self.now.program.now c.loop-place.place c.loop-place.marks (omega (arith, ge, long)) (c.loop-place.invariant j same none)
