use Rattle.std.proofs.Common.{rules, tests}
use Rattle.rule_text.specs.Related.{IsTypeOf}
use Rattle.rule_text.proofs.StepLemmas.{name_step, no_name}
use Rattle.rule_text.proofs.parse_member.read_type.Goals as goal

pub returns-then-not-is_name-clause-stop : goal.returns-then-not-is_name-clause-stop
returns-then-not-is_name-clause-stop c = no_name c.args.tokens.now c.args.at.now c.in-Some.token.now (search rules) (search rules) (search (rules, tests))

pub returns-clause-step : goal.returns-clause-step
returns-clause-step c = name_step IsTypeOf c.args.tokens.now c.args.at.now c.in-Some.token.now c.in_ok-kind.kind (search rules) (search rules) (search (rules, tests)) (search rules)
