use Rattle.dalvik_defs.specs.Naming.{text_at, type_at}
use Rattle.keep_rules.proofs.MemberLemmas.{field_what}
use Rattle.keep_rules.proofs.members.field_named.Goals as goal

pub returns-in-Field : goal.returns-in-Field
returns-in-Field c = λ w is. field_what c.in-Field.kind c.in-Field.name c.args.what.now w c.field_spelled.result (text_at c.args.program.now c.args.field.now.name) (type_at c.args.program.now c.args.field.now.kind) c.in-Field.is is c.field_spelled.ensures
