use Rattle.std.proofs.Common.{◌++◌, ◌∙◌, ap}
use Rattle.if_rules.specs.Lists.{lists_of}
use Rattle.if_rules.specs.Matched.{class_texts}
use Rattle.if_rules.proofs.texts.class_texts.Goals as goal

pub returns : goal.returns
returns c = λ ws are. c.in_ok-push_class_texts.ensures ws are ∙ ap (λ vs. lists_of vs ++ class_texts ws c.args.descriptor.now) c.new-out.ensures.items
