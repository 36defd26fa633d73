use Rattle.std.proofs.Common.{ℕ, refl}
use Rattle.program_model.specs.declared.program.Field.{Field}
use Rattle.facts_check.specs.Tables.{IsHeld}
use Rattle.facts_check.proofs.Loops.{one_item, all_of}
use Rattle.facts_check.proofs.fields.are_held.Goals as goal

pub loop-field-preserved : goal.loop-field-preserved
loop-field-preserved c = one_item (λ (i : ℕ) (f : Field). IsHeld c.args.known.now f) c.args.fields.now c.loop-field.field-index c.field-item.result c.field-item.is (c.if-not-is_held.ensures refl) c.loop-field.invariant

pub returns : goal.returns
returns c = λ e. all_of (λ (i : ℕ) (f : Field). IsHeld c.args.known.now f) c.args.fields.now c.loop-field.field-index c.loop-field-test.false c.loop-field.invariant
