use Rattle.std.specs.Prelude.{◌&&◌}
use Rattle.std.specs.List.{list_any}
use Rattle.program_model.specs.declared.program.Method.{Method}
use Rattle.keep_rules.specs.Marks.{is_on}
use Rattle.keep_rules.specs.Described.{method_names}
use Rattle.keep_rules.proofs.DescribedLemmas.{lists_start, lists_more, lists_end}
use Rattle.keep_rules.proofs.describe.add_methods.Goals as goal

pub loop-method-init : goal.loop-method-init
loop-method-init c = λ ready. lists_start c.args.view.now.program.now (λ n. list_any (λ (f : Method). is_on c.args.methods.now f.name && method_names c.args.view.now.program.now n f.name) c.args.class_methods.now) c.args.out.now.items

pub loop-method-preserved : goal.loop-method-preserved
loop-method-preserved c = λ ready. lists_more c.args.view.now.program.now (λ n (f : Method). is_on c.args.methods.now f.name && method_names c.args.view.now.program.now n f.name) c.args.class_methods.now c.loop-method.method-index _ c.args.out.now.items c.loop-method.out.items _ c.loop-method-test.true c.method-item.is
    (c.loop-method.invariant ready) (c.in_ok-add_marked_method.ensures ready)

pub returns : goal.returns
returns c = λ ready. lists_end c.args.view.now.program.now (λ n (f : Method). is_on c.args.methods.now f.name && method_names c.args.view.now.program.now n f.name) c.args.class_methods.now c.loop-method.method-index c.args.out.now.items c.loop-method.out.items c.loop-method-test.false (c.loop-method.invariant ready)
