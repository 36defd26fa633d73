use Rattle.std.proofs.Common.{◌≡◌, ◌++◌}
use Rattle.std.specs.Prelude.{OnOk}
use Rattle.dalvik_defs.specs.Naming.{text_at, type_at}
use Rattle.if_rules.specs.Lists.{lists_of}
use Rattle.if_rules.proofs.Takes.{spelled_field}
use Rattle.if_rules.proofs.texts.named_field_texts.Goals as goal

pub returns-in-Field : goal.returns-in-Field
returns-in-Field c = λ w is. spelled_field (λ ts. OnOk c.typed_texts.result (lists_of c.typed_texts.new.out.items ≡ lists_of c.args.out.now.items ++ ts)) c.args.what.now c.in-Field.kind c.in-Field.name w (text_at c.args.program.now c.args.field.now.name) (type_at c.args.program.now c.args.field.now.kind) c.in-Field.is is c.typed_texts.ensures
