use Rattle.std.proofs.Common.{sym}
use Rattle.dalvik_steps.proofs.FieldNames.{kind_is_fine, kind_text_is, no_name}
use Rattle.dalvik_steps.proofs.fields.field_kind.Goals as goal

pub returns-in-Some-clause-named : goal.returns-in-Some-clause-named
returns-in-Some-clause-named c = λ r low. kind_text_is c.args.tables.now.lookups r c.args.field c.in-Some.name.now (sym c.in-Some.ensures) c.kind.result c.kind.ensures.table

pub returns-in-Some-clause-fine : goal.returns-in-Some-clause-fine
returns-in-Some-clause-fine c = λ r low. kind_is_fine c.args.tables.now.lookups r c.args.field c.in-Some.name.now (sym c.in-Some.ensures) c.kind.result c.kind.ensures.table

pub returns-in-None-clause-named : goal.returns-in-None-clause-named
returns-in-None-clause-named c = λ r low. no_name _ c.args.tables.now.lookups.program.now c.args.field low (sym c.in-None.ensures)

pub returns-in-None-clause-fine : goal.returns-in-None-clause-fine
returns-in-None-clause-fine c = λ r low. no_name _ c.args.tables.now.lookups.program.now c.args.field low (sym c.in-None.ensures)
