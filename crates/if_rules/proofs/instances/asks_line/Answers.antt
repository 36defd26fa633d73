use Rattle.std.proofs.Common.{◌≡◌, ◌∙◌, rules}
use Rattle.std.specs.List.{list_any}
use Rattle.if_rules.specs.Instances.{names_line}
use Rattle.if_rules.specs.Lists.{lists_of}
use Rattle.if_rules.proofs.Grows.{says_uses}
use Rattle.if_rules.proofs.instances.asks_line.Goals as goal

pub returns : goal.returns
returns c = λ r of.
    let is : c.uses_line.result ≡ list_any (λ ps. list_any (names_line c.args.rule.now.slots.items) ps) (lists_of c.args.rule.now.words.items) = search rules in
    is ∙ says_uses c.args.rule.now r of
