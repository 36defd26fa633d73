use Rattle.premises.specs.Numbers.{FieldHasWords}
use Rattle.premises.proofs.Reading.{more, whole}
use Rattle.premises.proofs.numbers.read_fields.Goals as goal

pub loop-field-preserved : goal.loop-field-preserved
loop-field-preserved c = more FieldHasWords c.args.fields.now c.loop-field.field-index c.field-item.result c.loop-field-test.true c.field-item.is c.read_field.ensures c.loop-field.invariant

pub returns : goal.returns
returns c = whole FieldHasWords c.args.fields.now c.loop-field.field-index c.loop-field-test.false c.loop-field.invariant
