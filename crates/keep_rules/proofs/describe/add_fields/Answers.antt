use Rattle.std.specs.Prelude.{◌&&◌}
use Rattle.std.specs.List.{list_any}
use Rattle.program_model.specs.declared.program.Field.{Field}
use Rattle.keep_rules.specs.Marks.{is_on}
use Rattle.keep_rules.specs.Described.{field_names}
use Rattle.keep_rules.proofs.DescribedLemmas.{lists_start, lists_more, lists_end}
use Rattle.keep_rules.proofs.describe.add_fields.Goals as goal

pub loop-field-init : goal.loop-field-init
loop-field-init c = λ ready. lists_start c.args.view.now.program.now (λ n. list_any (λ (f : Field). is_on c.args.fields.now f.name && field_names c.args.view.now.program.now n f.name) c.args.class_fields.now) c.args.out.now.items

pub loop-field-preserved : goal.loop-field-preserved
loop-field-preserved c = λ ready. lists_more c.args.view.now.program.now (λ n (f : Field). is_on c.args.fields.now f.name && field_names c.args.view.now.program.now n f.name) c.args.class_fields.now c.loop-field.field-index _ c.args.out.now.items c.loop-field.out.items _ c.loop-field-test.true c.field-item.is
    (c.loop-field.invariant ready) (c.in_ok-add_marked_field.ensures ready)

pub returns : goal.returns
returns c = λ ready. lists_end c.args.view.now.program.now (λ n (f : Field). is_on c.args.fields.now f.name && field_names c.args.view.now.program.now n f.name) c.args.class_fields.now c.loop-field.field-index c.args.out.now.items c.loop-field.out.items c.loop-field-test.false (c.loop-field.invariant ready)
