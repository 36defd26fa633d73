use Rattle.std.proofs.Common.{◌++◌, ◌∙◌, ap}
use Rattle.dalvik_defs.specs.Naming.{method_at}
use Rattle.if_rules.specs.Lists.{lists_of}
use Rattle.if_rules.specs.Matched.{method_texts}
use Rattle.if_rules.proofs.texts.method_texts.Goals as goal

pub returns : goal.returns
returns c = λ w known of. c.in_ok-numbered_method_texts.ensures w known of ∙ ap (λ vs. lists_of vs ++ method_texts w (method_at c.args.program.now c.args.method).name (method_at c.args.program.now c.args.method).signature) c.new-out.ensures.items
