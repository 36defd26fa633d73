use Rattle.std.proofs.Common.{drop}
use Rattle.std.specs.Prelude.{◌&&◌}
use Rattle.std.specs.List.{list_any}
use Rattle.program_model.specs.declared.program.Method.{Method}
use Rattle.keep_rules.specs.Marks.{is_on}
use Rattle.keep_rules.specs.View.{IsReady}
use Rattle.keep_rules.specs.Described.{method_names, ListsLeft}
use Rattle.keep_rules.proofs.describe.add_methods.Given as goal

abbrev pub invariant-loop-method : goal.invariant-loop-method
invariant-loop-method l = IsReady l.view → ListsLeft l.view.program.now (λ n. list_any (λ (f : Method). is_on l.methods f.name && method_names l.view.program.now n f.name) (drop l.method-index l.class_methods)) (λ n. list_any (λ (f : Method). is_on l.methods f.name && method_names l.view.program.now n f.name) l.class_methods) l.initial.out.items l.out.items
