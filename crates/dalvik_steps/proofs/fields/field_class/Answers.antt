use Rattle.std.proofs.Common.{sym}
use Rattle.dalvik_steps.proofs.FieldNames.{class_text_is, no_name}
use Rattle.dalvik_steps.proofs.fields.field_class.Goals as goal

pub returns-in-Some : goal.returns-in-Some
returns-in-Some c = λ r low. class_text_is c.args.tables.now.lookups r c.args.field c.in-Some.name.now (sym c.in-Some.ensures) c.kind.result c.kind.ensures.table

pub returns-in-None : goal.returns-in-None
returns-in-None c = λ r low. no_name _ c.args.tables.now.lookups.program.now c.args.field low (sym c.in-None.ensures)
