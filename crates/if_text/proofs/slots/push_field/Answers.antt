use Rattle.std.proofs.lemmas.Result.{on_ok_weaker}
use Rattle.if_text.specs.Wildcards.{name_wilds, type_wilds}
use Rattle.if_text.proofs.Loops.{adds_all}
use Rattle.if_text.proofs.slots.push_field.Goals as goal

pub returns-clause-adds : goal.returns-clause-adds
returns-clause-adds c = λ k w kind name. on_ok_weaker c.push_line_name.result
    (λ more. adds_all c.args.start (type_wilds k) (name_wilds w) c.args.out.now.items c.push_line_type.new.out.items c.push_line_name.new.out.items (c.in_ok-push_line_type.ensures.adds k kind) more)
    (c.push_line_name.ensures.adds w name)
