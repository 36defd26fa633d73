use Rattle.std.specs.Prelude.{OnOk}
use Rattle.if_text.specs.Slots.{Adds}
use Rattle.if_text.proofs.Loops.{what_field, what_method}
use Rattle.if_text.proofs.slots.push_what.Goals as goal

pub returns-in-Field-clause-adds : goal.returns-in-Field-clause-adds
returns-in-Field-clause-adds c = λ w is. what_field (λ n. OnOk c.push_field.result (Adds c.args.start n c.args.out.now.items c.push_field.new.out.items)) c.args.what.now c.in-Field.kind c.in-Field.name w c.in-Field.is is c.push_field.ensures.adds

pub returns-in-Method-clause-adds : goal.returns-in-Method-clause-adds
returns-in-Method-clause-adds c = λ w is. what_method (λ n. OnOk c.push_method.result (Adds c.args.start n c.args.out.now.items c.push_method.new.out.items)) c.args.what.now c.in-Method.result c.in-Method.name c.in-Method.arguments w c.in-Method.is is
    c.push_method.ensures.adds
