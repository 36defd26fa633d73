use Rattle.std.proofs.Common.{◌≡◌, Some, ap, subst, sym, length, arith}
use Rattle.std.specs.Prelude.{slice_get}
use Rattle.class_defs.proofs.WellFormed.{few_classes}
use Rattle.loose_methods.specs.Asked.{MarksClass}
use Rattle.loose_methods.proofs.Placed.{got_in}
use Rattle.loose_methods.proofs.Marking.{candidates_more, candidates_end}
use Rattle.loose_methods.proofs.candidates.Judged.mark_classes.Goals as goal

pub loop-place-init : goal.loop-place-init
loop-place-init c = λ o j kept outward same none. none

pub loop-place-preserved : goal.loop-place-preserved
loop-place-preserved c = λ o j kept outward same none.
    let p = c.args.self.now.program.now in
    let i = c.loop-place.place in
    let lt = c.loop-place-test.true in
    let few = few_classes p j.formed in
    let long = ap length same in
    let at : c.word.result ≡ i = c.word.ensures (omega (arith, lt, few, long)) in
    let was = c.loop-place.invariant o j kept outward same none in
    candidates_more p o i c.loop-place.marks c.mark_class.new.marks was
    (subst (λ n. MarksClass p o n c.loop-place.marks c.mark_class.new.marks) at
    (c.in_ok-mark_class.ensures o j (subst (λ n. slice_get p.classes n ≡ Some c.index-classes-place.result) (sym at) (got_in c.args.classes.now p.classes i c.index-classes-place.result same lt c.index-classes-place.is)) kept outward was.long))

pub returns : goal.returns
returns c = λ o j kept outward same none.
    let ge = c.loop-place-test.false in
    let long = ap length same in
    candidates_end c.args.self.now.program.now o c.loop-place.place c.loop-place.marks (omega (arith, ge, long)) (c.loop-place.invariant o j kept outward same none)
