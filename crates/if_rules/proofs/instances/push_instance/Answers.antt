use Rattle.std.proofs.Common.{refl, rules}
use Rattle.if_rules.proofs.instances.push_instance.Goals as goal

pub returns : goal.returns
returns c = record {
  one = record { rule = c.args.at.now.number; class = c.args.at.now.class; choice = c.args.choice; text = c.in_ok-text.text };
  is = search rules;
  rule = refl;
  class = refl;
  choice = refl;
  says = search rules;
}
