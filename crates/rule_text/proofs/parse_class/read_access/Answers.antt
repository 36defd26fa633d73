use Rattle.std.proofs.Common.{rules}
use Rattle.rule_text.proofs.ClassRefusals.{no_access_at, no_access_behind}
use Rattle.rule_text.proofs.parse_class.read_access.Goals as goal

pub returns-in_default-clause-none : goal.returns-in_default-clause-none
returns-in_default-clause-none c =
    no_access_at c.args.tokens.now c.args.at.now c.accept-negated.new.at c.word_at.result.now c.class_access.result c.accept-negated.result c.class_access.ensures (search rules) (search rules) c.accept-negated.ensures.step c.accept-negated.ensures.stays

pub returns-in_default-clause-behind : goal.returns-in_default-clause-behind
returns-in_default-clause-behind c =
    no_access_behind c.args.tokens.now c.args.at.now c.accept-negated.new.at c.word_at.result.now c.class_access.result c.accept-negated.result c.class_access.ensures (search rules) (search rules) c.accept-negated.ensures.step c.accept-negated.ensures.otherwise
