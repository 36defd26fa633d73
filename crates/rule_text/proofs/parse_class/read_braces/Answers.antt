use Rattle.std.proofs.Common.{rules, sym, tests, ◌∙◌}
use Rattle.rule_text.proofs.ClassLemmas.{no_braces, some_braces}
use Rattle.rule_text.proofs.parse_class.read_braces.Goals as goal

pub returns-then-ne-clause-step : goal.returns-then-ne-clause-step
returns-then-ne-clause-step c = no_braces c.args.tokens.now c.args.at.now

pub returns-clause-step : goal.returns-clause-step
returns-clause-step c = some_braces c.args.tokens.now c.args.at.now c.read_members.new.at c.in_ok-members.members (search rules)

pub returns-in_err-members-clause-opens : goal.returns-in_err-members-clause-opens
returns-in_err-members-clause-opens c _ =
    sym c.word_at.ensures ∙ search (rules, tests)
