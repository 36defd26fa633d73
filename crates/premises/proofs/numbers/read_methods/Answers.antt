use Rattle.premises.specs.Numbers.{MethodHasWords}
use Rattle.premises.proofs.Reading.{more, whole}
use Rattle.premises.proofs.numbers.read_methods.Goals as goal

pub loop-method-preserved : goal.loop-method-preserved
loop-method-preserved c = more MethodHasWords c.args.methods.now c.loop-method.method-index c.method-item.result c.loop-method-test.true c.method-item.is c.read_method.ensures c.loop-method.invariant

pub returns : goal.returns
returns c = whole MethodHasWords c.args.methods.now c.loop-method.method-index c.loop-method-test.false c.loop-method.invariant
