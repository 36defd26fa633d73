use Rattle.std.proofs.Common.{rules, ap, sym, tests, ◌∙◌}
use Rattle.rule_text.specs.Spelling.{begins_option}
use Rattle.rule_text.proofs.StepLemmas.{step_on}
use Rattle.rule_text.proofs.StepLemmas.{first_at}
use Rattle.rule_text.proofs.parse_file.option_word.Goals as goal

pub returns-clause-step : goal.returns-clause-step
returns-clause-step c = step_on c.args.tokens.now c.args.at.now c.in-Some.token.now (search rules) (search rules)

pub returns-then-begins_option-clause-next : goal.returns-then-begins_option-clause-next
returns-then-begins_option-clause-next c _ =
    sym (ap begins_option (first_at c.args.tokens.now c.args.at.now c.in-Some.token.now (search rules) (search rules))) ∙ search (rules, tests)
