use Rattle.std.proofs.Common.{rules, tests}
use Rattle.rule_text.proofs.StepLemmas.{mark_step}
use Rattle.rule_text.proofs.StopLemmas.{no_mark}
use Rattle.rule_text.proofs.StopLemmas.{short_mark, other_mark}
use Rattle.rule_text.proofs.parse_member.read_mark.Goals.{in_default-via-then-token-lt1, in_default-via-else-token-lt1+in_default-1}
use Rattle.rule_text.proofs.parse_member.read_mark.Goals as goal

pub returns-in_ok-mark-in-64-clause-step : goal.returns-in_ok-mark-in-64-clause-step
returns-in_ok-mark-in-64-clause-step c = mark_step c.args.tokens.now c.args.at.now c.in-Some.token.now c.in_ok-mark-in-64.mark (search rules) (search rules) c.in-64.len_at_least (search rules) (search (rules, tests)) (search rules)

pub returns-then-not-is_name-clause-stop : goal.returns-then-not-is_name-clause-stop
returns-then-not-is_name-clause-stop c = no_mark c.args.tokens.now c.args.at.now c.in-Some.token.now (search rules) (search rules) c.in-64.len_at_least (search rules) (search (rules, tests))

pub returns-in_default-clause-none : goal.returns-in_default-clause-none
returns-in_default-clause-none c =
    elim c.in_default.branch [
      | in_default-via-then-token-lt1 w ↦ short_mark c.args.tokens.now c.args.at.now c.in-Some.token.now (search rules) (search rules) (search rules)
      | in_default-via-else-token-lt1+in_default-1 w ↦ other_mark c.args.tokens.now c.args.at.now c.in-Some.token.now (search rules) (search rules) (search (rules, tests))
    ]
