use Rattle.std.proofs.Common.{All, take}
use Rattle.premises.specs.Numbers.{FieldHasWords}
use Rattle.premises.proofs.numbers.read_fields.Given as goal

abbrev pub invariant-loop-field : goal.invariant-loop-field
invariant-loop-field l = All FieldHasWords (take l.field-index l.fields)
