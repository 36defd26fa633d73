use Rattle.std.proofs.Common.{◌++◌, ◌∙◌, ap}
use Rattle.dalvik_defs.specs.Naming.{field_at}
use Rattle.if_rules.specs.Lists.{lists_of}
use Rattle.if_rules.specs.Matched.{field_texts}
use Rattle.if_rules.proofs.texts.field_texts.Goals as goal

pub returns : goal.returns
returns c = λ w known of. c.in_ok-numbered_field_texts.ensures w known of ∙ ap (λ vs. lists_of vs ++ field_texts w (field_at c.args.program.now c.args.field).name (field_at c.args.program.now c.args.field).kind) c.new-out.ensures.items
