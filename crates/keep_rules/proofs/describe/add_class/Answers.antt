use Rattle.std.proofs.Common.{◌∙◌, ap}
use Rattle.dalvik_defs.specs.Names.{base_of}
use Rattle.keep_rules.specs.Described.{is_class_named, names_class}
use Rattle.keep_rules.proofs.DescribedLemmas.{listed_as}
use Rattle.keep_rules.proofs.describe.add_class.Goals as goal

pub returns : goal.returns
returns c = λ ready. let p = c.args.view.now.program.now in
    listed_as p (λ n. is_class_named p n c.element-units.result.now) (λ n. names_class p n c.args.kind) c.args.out.now.items _
    (λ n h. ap (is_class_named p n) (c.element-units.ensures ∙ ap base_of c.descriptor.ensures)) (c.in_ok-add_option.ensures p c.element-units.result.now (c.class_named.ensures ready))
