use Rattle.std.proofs.Common.{◌≡◌, ◌∙◌, ap, subst, length, arith}
use Rattle.std.specs.Prelude.{Some, slice_get}
use Rattle.stub_library.proofs.Levels.{got_at}
use Rattle.stub_library.proofs.Opened.{met_none, met_more, met_all}
use Rattle.stub_library.proofs.open.Above.of_classes.Goals as goal

pub loop-class-init : goal.loop-class-init
loop-class-init c = met_none c.args.program.now c.args.declared.now.library.now c.none-above.result.opens.items c.none-above.result.numbers.items c.none-above.ensures.opens c.none-above.ensures.numbers

pub loop-class-preserved : goal.loop-class-preserved
loop-class-preserved c =
    let got : slice_get c.args.program.now.classes c.loop-class.class-index ≡ Some c.class-item.result =
    subst (λ cs. slice_get cs c.loop-class.class-index ≡ Some c.class-item.result) c.as_slice-class-items.ensures (got_at c.as_slice-class-items.result.now c.loop-class.class-index c.class-item.result c.class-item.result c.class-item.is c.loop-class-test.true) in
    met_more c.args.program.now c.args.declared.now.library.now c.loop-class.above.opens.items c.add.new.self.opens.items c.loop-class.above.numbers.items c.add.new.self.numbers.items c.loop-class.class-index c.class-item.result c.in_ok-met.met.whole c.in_ok-met.met.numbers.items
    c.loop-class.invariant got c.in_ok-met.ensures c.in_ok-add.ensures.opens c.in_ok-add.ensures.numbers

pub returns : goal.returns
returns c =
    let le = c.loop-class-test.false in
    let size = ap length c.as_slice-class-items.ensures in
    met_all c.args.program.now c.args.declared.now.library.now c.loop-class.above.opens.items c.loop-class.above.numbers.items c.loop-class.class-index (omega (arith, le, size)) (omega (arith, size)) c.loop-class.invariant
