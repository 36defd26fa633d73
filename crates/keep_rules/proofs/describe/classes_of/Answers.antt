use Rattle.std.proofs.Common.{ap}
use Rattle.std.specs.List.{list_any}
use Rattle.std.specs.Prelude.{◌&&◌}
use Rattle.program_model.specs.declared.program.Field.{Field}
use Rattle.program_model.specs.declared.program.Method.{Method}
use Rattle.keep_rules.specs.Marks.{is_on}
use Rattle.keep_rules.specs.Described.{field_names, method_names, fields_name, methods_name, class_names}
use Rattle.keep_rules.proofs.DescribedLemmas.{listed_then, listed_as, listed_from}
use Rattle.keep_rules.proofs.describe.classes_of.Goals as goal

pub returns : goal.returns
returns c = λ ready. let p = c.args.view.now.program.now in let d = c.args.class.now in
    listed_from p (class_names p c.args.fields.now c.args.methods.now d) c.new-out.result.items _ c.new-out.ensures.items
    (listed_then p (fields_name p c.args.fields.now d) (methods_name p c.args.methods.now d) c.new-out.result.items c.add_fields.new.out.items _
    (listed_as p (λ n. list_any (λ (f : Field). is_on c.args.fields.now f.name && field_names p n f.name) c.as_slice.result.now) (fields_name p c.args.fields.now d) c.new-out.result.items c.add_fields.new.out.items
    (λ n h. ap (list_any (λ (f : Field). is_on c.args.fields.now f.name && field_names p n f.name)) c.as_slice.ensures) (c.in_ok-add_fields.ensures ready))
    (listed_as p (λ n. list_any (λ (m : Method). is_on c.args.methods.now m.name && method_names p n m.name) c.as_slice-2.result.now) (methods_name p c.args.methods.now d) c.add_fields.new.out.items _
    (λ n h. ap (list_any (λ (m : Method). is_on c.args.methods.now m.name && method_names p n m.name)) c.as_slice-2.ensures) (c.in_ok-add_methods.ensures ready)))
