use Rattle.std.proofs.Common.{drop}
use Rattle.std.specs.Prelude.{◌&&◌}
use Rattle.std.specs.List.{list_any}
use Rattle.program_model.specs.declared.program.Field.{Field}
use Rattle.keep_rules.specs.Marks.{is_on}
use Rattle.keep_rules.specs.View.{IsReady}
use Rattle.keep_rules.specs.Described.{field_names, ListsLeft}
use Rattle.keep_rules.proofs.describe.add_fields.Given as goal

abbrev pub invariant-loop-field : goal.invariant-loop-field
invariant-loop-field l = IsReady l.view → ListsLeft l.view.program.now (λ n. list_any (λ (f : Field). is_on l.fields f.name && field_names l.view.program.now n f.name) (drop l.field-index l.class_fields)) (λ n. list_any (λ (f : Field). is_on l.fields f.name && field_names l.view.program.now n f.name) l.class_fields) l.initial.out.items l.out.items
