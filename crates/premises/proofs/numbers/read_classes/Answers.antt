use Rattle.premises.specs.Numbers.{ClassHasWords}
use Rattle.premises.proofs.Reading.{more, whole}
use Rattle.premises.proofs.numbers.read_classes.Goals as goal

pub loop-class-preserved : goal.loop-class-preserved
loop-class-preserved c = more ClassHasWords c.args.classes.now c.loop-class.class-index c.class-item.result c.loop-class-test.true c.class-item.is c.read_class.ensures c.loop-class.invariant

pub returns : goal.returns
returns c = whole ClassHasWords c.args.classes.now c.loop-class.class-index c.loop-class-test.false c.loop-class.invariant
