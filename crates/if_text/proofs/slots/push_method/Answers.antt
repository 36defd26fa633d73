use Rattle.std.proofs.lemmas.Result.{on_ok_weaker}
use Rattle.if_text.specs.Wildcards.{name_wilds, type_wilds, argument_wilds}
use Rattle.if_text.proofs.Loops.{adds_three}
use Rattle.if_text.proofs.slots.push_method.Goals as goal

pub returns-clause-adds : goal.returns-clause-adds
returns-clause-adds c = λ k w a kind name are. on_ok_weaker c.push_arguments.result
    (λ more. adds_three c.args.start (type_wilds k) (name_wilds w) (argument_wilds a) c.args.out.now.items c.push_field.new.out.items c.push_arguments.new.out.items (c.in_ok-push_field.ensures.adds k w kind name) more)
    (c.push_arguments.ensures.adds a are)
